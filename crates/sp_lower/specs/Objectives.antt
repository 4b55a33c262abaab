-- The objective in whole units.
use Rattle.std.specs.Prelude.{ℕ, ◌+◌, max, Bool, not, nat_le, List, map, ℤ}
use Rattle.sp_decimal.specs.DecimalFraction.{DecimalFraction}
use Rattle.sp_model.specs.Boxes.{Bounds}
use Rattle.sp_model.specs.Sums.{Term, width_over}
use Rattle.sp_scaling.specs.Scaling.{WrittenTerm, greatest_width, most_places_of, numbers_of, units, scaled, collected, total, sizes, turned, turned_terms}

-- the scale of the objective: the most decimal places among its coefficients and constants
abbrev pub objective_places : List WrittenTerm → List DecimalFraction → ℕ
objective_places cost constants = max (most_places_of (numbers_of cost)) (most_places_of constants)

-- its terms and its constants in units of that scale, as written
abbrev pub cost_terms : List WrittenTerm → List DecimalFraction → List Term
cost_terms cost constants = scaled (objective_places cost constants) cost

abbrev pub whole_constants : List WrittenTerm → List DecimalFraction → List ℤ
whole_constants cost constants = map (units (objective_places cost constants)) constants

-- its width over a box: each written term and each constant counts by itself
abbrev pub objective_width : Bounds → List WrittenTerm → List DecimalFraction → ℕ
objective_width b cost constants = width_over b (cost_terms cost constants) + sizes (whole_constants cost constants)

-- the objective is wider than a model's may be
abbrev pub is_wide_objective : Bounds → List WrittenTerm → List DecimalFraction → Bool
is_wide_objective b cost constants = not (nat_le (objective_width b cost constants) greatest_width)

-- what a model keeps of it, in the minimising direction: the terms of one variable added up, and the constants added up
abbrev pub model_cost : Bool → List WrittenTerm → List DecimalFraction → List Term
model_cost maximize cost constants = turned_terms maximize (collected (cost_terms cost constants))

abbrev pub model_constant : Bool → List WrittenTerm → List DecimalFraction → ℤ
model_constant maximize cost constants = turned maximize (total (whole_constants cost constants))
