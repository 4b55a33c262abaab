use Rattle.std.proofs.Common.{◌≡◌, length, ap, arith}
use Rattle.sp_activity.specs.Kept.{bounds_of}
use Rattle.sp_activity.proofs.SideLemmas.{all_loose}
use Rattle.sp_activity.proofs.kept.Kept.tighten.Goals as goal

pub tight_side-requires-clause-known : goal.tight_side-requires-clause-known
tight_side-requires-clause-known c =
    let now : length (bounds_of c.loop-at.self) ≡ length (bounds_of c.args.self.now) = ap length c.loop-at.invariant.same in
    let box : length c.bounds.result.now ≡ length (bounds_of c.args.self.now) = ap length c.bounds.ensures in
    let less = c.loop-at-test.true in
    omega (arith, now, box, c.len-at-end.ensures, c.new-var.ensures, less)

pub returns-clause-none : goal.returns-clause-none
returns-clause-none c =
    all_loose c.args.model.now (bounds_of c.args.self.now) (λ v h. c.loop-at.invariant.loose v (let past = c.loop-at-test.false in let long = c.len-at-end.ensures in let box = ap length c.bounds.ensures in omega arith))
