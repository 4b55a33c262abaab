use Rattle.std.proofs.Common.{◌≡◌, ◌++◌, drop, map}
use Rattle.sp_lower.specs.Variables.{stated_upper}
use Rattle.sp_lower.proofs.cores.upper_bounds.Given as goal

abbrev pub invariant-loop-var : goal.invariant-loop-var
invariant-loop-var l = l.list ++ map stated_upper (drop l.var-index l.vars) ≡ map stated_upper l.vars
