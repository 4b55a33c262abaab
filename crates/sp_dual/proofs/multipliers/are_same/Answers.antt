use Rattle.std.proofs.Common.{refl, arith}
use Rattle.sp_dual.proofs.EntryLemmas.{same-everywhere}
use Rattle.sp_dual.proofs.multipliers.are_same.Goals as goal

pub returns : goal.returns
returns c =
    (λ _. same-everywhere c.args.left.now c.args.right.now (omega arith) (λ k l. c.loop-at.invariant k (omega arith)), λ _. refl)
