use Rattle.std.proofs.Common.{◌≡◌, ◌++◌, drop, map}
use Rattle.sp_lower.proofs.sets.vars_of.Given as goal

abbrev pub invariant-loop-member : goal.invariant-loop-member
invariant-loop-member l = l.vars.items ++ map (λ m. m.0) (drop l.member-index l.members) ≡ map (λ m. m.0) l.members
