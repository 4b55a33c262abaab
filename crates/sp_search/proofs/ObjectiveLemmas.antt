-- The least objective over a box of one point.
use Rattle.std.proofs.Common.{◌≡◌, List, ℤ, ◌+ℤ◌, ap}
use Rattle.sp_model.specs.declared.parts.ModelParts.{ModelParts}
use Rattle.sp_model.specs.Boxes.{Bounds}
use Rattle.sp_model.specs.Models.{objective}
use Rattle.sp_model.specs.Sums.{Term, sum_at}
use Rattle.sp_sums.specs.Extremes.{least_over, most_over}
use Rattle.sp_sums.specs.Ranges.{IsPointBox}
use Rattle.sp_cover.specs.Numbers.{least_objective}

abbrev pub SumsMeet : Type 0
SumsMeet = (b : Bounds) (ts : List Term) (x : List ℤ) → IsPointBox b x → (least_over b ts ≡ sum_at ts x) × (most_over b ts ≡ sum_at ts x)

-- over a box of one point it is that point's
pub least-at-point : SumsMeet → (m : ModelParts) (b : Bounds) (x : List ℤ) → IsPointBox b x → least_objective m b ≡ objective m x
least-at-point meet m b x h = ap (λ v. m.constant +ℤ v) (meet b m.cost x h).0
