use Rattle.std.proofs.Common.{◌≡◌, ◌+◌, ◌-◌, get_or, drop, sym, ap, ◌∙◌, arith}
use Rattle.sp_lower.specs.InnerSets.{rises}
use Rattle.sp_lower.proofs.SetLemmas.{rises_on, rises_end}
use Rattle.sp_lower.proofs.sets.rises.Goals as goal

pub loop-at-preserved : goal.loop-at-preserved
loop-at-preserved c =
    let i = c.loop-at.at - 1 in
    let e : i + 1 ≡ c.loop-at.at = omega (arith, c.loop-at.auto.at) in
    let f : c.loop-at.at + 1 - 1 ≡ i + 1 = omega (arith, c.loop-at.auto.at) in
    let n = c.index-members-at-in-loop-at.result in
    let second : n ≡ get_or c.args.members.now (i + 1) n = rw e c.index-members-at-in-loop-at.is in
    let on = rises_on c.args.members.now i c.index-members-at.result n (omega arith) c.index-members-at.is second (sym c.in-Less.is ∙ c.compare.ensures) in
    ap (λ k. rises (drop k c.args.members.now)) f ∙ (sym on ∙ c.loop-at.invariant)

pub returns : goal.returns
returns c = sym (rises_end c.args.members.now (c.loop-at.at - 1) (omega (arith, c.loop-at.auto.at, c.loop-at-test.false))) ∙ c.loop-at.invariant
