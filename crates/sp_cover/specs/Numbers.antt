-- The numbers that lists of multipliers give over boxes.
use Rattle.std.specs.Prelude.{List, [], ◌∷◌, ℕ, ℤ, Option, Some, ◌+ℤ◌}
use Rattle.sp_model.specs.declared.parts.ModelParts.{ModelParts}
use Rattle.sp_model.specs.Boxes.{Bounds}
use Rattle.sp_sums.specs.Extremes.{least_over}
use Rattle.sp_dual.specs.Lists.{MultiplierList}
use Rattle.sp_bound.specs.Bounds.{bound_of}

-- the least objective over a box, whatever the rows say
abbrev pub least_objective : ModelParts → Bounds → ℤ
least_objective m b = m.constant +ℤ least_over b m.cost

-- a list without entries gives the least objective over the box, any other one its bound, where it has one
abbrev pub number_by : ModelParts → Bounds → MultiplierList → List (ℕ × ℤ) → Option ℤ
number_by m b list [] = Some (least_objective m b)
number_by m b list (e ∷ es) = bound_of m b list

abbrev pub number_of : ModelParts → Bounds → MultiplierList → Option ℤ
number_of m b list = number_by m b list list.y
