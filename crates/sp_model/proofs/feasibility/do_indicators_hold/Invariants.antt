use Rattle.std.proofs.Common.{◌≡◌, true, take}
use Rattle.std.specs.List.{list_all}
use Rattle.sp_model.specs.Models.{indicator_holds}
use Rattle.sp_model.proofs.feasibility.do_indicators_hold.Given as goal

abbrev pub invariant-loop-indicator : goal.invariant-loop-indicator
invariant-loop-indicator l = list_all (λ item. indicator_holds item l.x) (take l.indicator-index l.indicators) ≡ true
