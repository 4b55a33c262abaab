use Rattle.std.proofs.Common.{◌<◌, ◌≤◌, ◌↔◌, IsTrue, length, arith}
use Rattle.std.proofs.lemmas.List.{get_or_default}
use Rattle.sp_model.specs.Limits.{most_variables}
use Rattle.sp_model.specs.Rules.{IsRangeLawful}
use Rattle.sp_model.specs.Stated.{OpenRange, open_at, stated_of}
use Rattle.sp_model.proofs.RuleLemmas.{first_broken, one_more, all_lawful}
use Rattle.sp_model.proofs.StatedLemmas.{length_stated, range_told}
use Rattle.sp_model.proofs.bound_rules.broken_range.Goals as goal

pub returns-then-not-is_range_lawful : goal.returns-then-not-is_range_lawful
returns-then-not-is_range_lawful c =
    let m = c.args.parts.now in
    let b = stated_of m in
    let lt : c.loop-at.at < length m.lower = rw c.as_slice-lower.ensures at c.loop-at-test.true in
    let l : c.loop-at.at < length b = omega (arith, length_stated m c.requires.paired) in
    let told = range_told m c.loop-at.at (λ r. IsTrue c.is_range_lawful.result ↔ IsRangeLawful r) c.requires.paired lt (rw (c.as_slice-lower.ensures, c.as_slice-upper.ensures) at c.is_range_lawful.ensures) in
    first_broken most_variables IsRangeLawful b c.loop-at.at (open_at b c.loop-at.at) l (get_or_default b c.loop-at.at _ _ l) (omega (arith, c.requires.few)) c.loop-at.invariant (λ r. let h = told.1 r in cc)

pub loop-at-preserved : goal.loop-at-preserved
loop-at-preserved c =
    let m = c.args.parts.now in
    let b = stated_of m in
    let lt : c.loop-at.at < length m.lower = rw c.as_slice-lower.ensures at c.loop-at-test.true in
    let l : c.loop-at.at < length b = omega (arith, length_stated m c.requires.paired) in
    let told = range_told m c.loop-at.at (λ r. IsTrue c.is_range_lawful.result ↔ IsRangeLawful r) c.requires.paired lt (rw (c.as_slice-lower.ensures, c.as_slice-upper.ensures) at c.is_range_lawful.ensures) in
    one_more most_variables IsRangeLawful b c.loop-at.at (open_at b c.loop-at.at) l (get_or_default b c.loop-at.at _ _ l) c.loop-at.invariant (told.0 c.if-not-is_range_lawful.false)

pub returns : goal.returns
returns c =
    let m = c.args.parts.now in
    let b = stated_of m in
    let end : length m.lower ≤ c.loop-at.at = rw c.as_slice-lower.ensures at c.loop-at-test.false in
    (all_lawful c.loop-at.at IsRangeLawful b c.loop-at.at (omega (arith, length_stated m c.requires.paired)) (omega arith) c.loop-at.invariant).each
