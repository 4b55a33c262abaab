use Rattle.std.proofs.Common.{◌≡◌, true, take}
use Rattle.std.specs.List.{list_all}
use Rattle.sp_model.specs.Models.{set_holds}
use Rattle.sp_model.proofs.feasibility.do_sets_hold.Given as goal

abbrev pub invariant-loop-set : goal.invariant-loop-set
invariant-loop-set l = list_all (λ item. set_holds item l.x) (take l.set-index l.sets) ≡ true
