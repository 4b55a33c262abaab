use Rattle.std.proofs.Common.{◌<◌, length, refl, arith}
use Rattle.sp_model.specs.Boxes.{ranges}
use Rattle.sp_model.proofs.WithinLemmas.{range_at-ranges, none_between, more_between, within_from_between, long_within, between_within}
use Rattle.sp_model.proofs.boxes.are_values_within.Goals as goal

pub loop-at-init : goal.loop-at-init
loop-at-init c = none_between (ranges c.args.lower.now c.args.upper.now) c.args.x.now

pub loop-at-preserved : goal.loop-at-preserved
loop-at-preserved c =
    let e = range_at-ranges c.args.lower.now c.args.upper.now c.requires c.loop-at.at in
    more_between (ranges c.args.lower.now c.args.upper.now) c.args.x.now c.loop-at.at c.loop-at.invariant (rw e (c.is_between.ensures.0 c.if-not-is_between.false))

pub returns-then-not-is_between : goal.returns-then-not-is_between
returns-then-not-is_between c =
    let e = range_at-ranges c.args.lower.now c.args.upper.now c.requires c.loop-at.at in
    (λ t. cc, λ w. let l : c.loop-at.at < length c.args.lower.now = omega arith in let h = c.is_between.ensures.1 (rw e at (between_within c.args.lower.now c.args.upper.now c.args.x.now c.loop-at.at c.requires l w)) in cc)

pub returns : goal.returns
returns c =
    (λ _. within_from_between c.args.lower.now c.args.upper.now c.args.x.now c.loop-at.at c.requires c.if-x-lower.false c.loop-at-test.false c.loop-at.invariant, λ _. refl)

pub returns-then-x-lower : goal.returns-then-x-lower
returns-then-x-lower c =
    (λ t. cc, λ w. absurd (c.if-x-lower.true (long_within c.args.lower.now c.args.upper.now c.args.x.now c.requires w)))
