use Rattle.std.proofs.Common.{◌≡◌, map, take}
use Rattle.sp_model.specs.declared.parts.Indicator.{Indicator}
use Rattle.sp_activity.proofs.making.indicator_rows.Given as goal

abbrev pub invariant-loop-indicator : goal.invariant-loop-indicator
invariant-loop-indicator l = l.copies.items ≡ map (λ (i : Indicator). i.row) (take l.indicator-index l.indicators)
