use Rattle.std.proofs.Common.{◌≡◌, ◌++◌, drop, map}
use Rattle.sp_lower.specs.Variables.{stated_lower}
use Rattle.sp_lower.proofs.cores.lower_bounds.Given as goal

abbrev pub invariant-loop-var : goal.invariant-loop-var
invariant-loop-var l = l.list ++ map stated_lower (drop l.var-index l.vars) ≡ map stated_lower l.vars
