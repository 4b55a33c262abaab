use Rattle.std.proofs.Common.{◌≡◌, drop}
use Rattle.sp_bound.specs.Bounds.{coefficient_in}
use Rattle.sp_bound.proofs.reduced.coefficient_in.Given as goal

abbrev pub invariant-loop-term : goal.invariant-loop-term
invariant-loop-term l = coefficient_in (drop l.term-index l.terms) l.var ≡ coefficient_in l.terms l.var
