use Rattle.std.proofs.Common.{◌≡◌, true, take}
use Rattle.std.specs.List.{list_all}
use Rattle.sp_model.specs.Stated.{core_holds}
use Rattle.sp_model.proofs.feasibility.do_cores_hold.Given as goal

abbrev pub invariant-loop-core : goal.invariant-loop-core
invariant-loop-core l = list_all (λ item. core_holds item l.x) (take l.core-index l.cores) ≡ true
