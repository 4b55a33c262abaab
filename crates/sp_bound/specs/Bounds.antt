-- Lower bounds on the objective over a box, from multipliers for the rows: every number of a bound, and when there is one.
use Rattle.std.specs.Prelude.{ℕ, suc, ◌^◌, ◌<◌, ◌==◌, Bool, cond, nat_lt, List, [], ◌∷◌, ◌++◌, length, map, All, IsTrue, Option, None, Some, unwrap_or, ℤ, pos, negsuc, ◌+ℤ◌, ◌-ℤ◌, ◌*ℤ◌, int_lt}
use Rattle.std.specs.List.{list_all}
use Rattle.sp_model.specs.declared.parts.Row.{Row}
use Rattle.sp_model.specs.declared.parts.ModelParts.{ModelParts}
use Rattle.sp_model.specs.Boxes.{Bounds, IsWithin}
use Rattle.sp_model.specs.Models.{row_holds}
use Rattle.sp_model.specs.Rounds.{ceiling_of}
use Rattle.sp_model.specs.Sums.{Term}
use Rattle.sp_sums.specs.Extremes.{term_least, least_over, most_over}
use Rattle.sp_sums.specs.Rows.{row_at}
use Rattle.sp_dual.specs.Lists.{MultiplierList}

-- a row with its multiplier
abbrev pub Weight : Type 0
Weight = ℕ × ℤ

-- ---- the numbers, each of any size

-- the side that the multiplier names: the least for one above 0, else the greatest; where it is missing, the least or the greatest
-- sum of the row over the box
abbrev pub side_of : Bounds → Row → ℤ → ℤ
side_of b row y = cond (int_lt (pos 0) y) (unwrap_or row.lo (least_over b row.terms)) (unwrap_or row.hi (most_over b row.terms))

-- the multiplier times its side
abbrev pub side_product : Bounds → List Row → Weight → ℤ
side_product b rows w = w.1 *ℤ side_of b (row_at rows w.0) w.1

-- the coefficient of a variable, 0 where no term has it
abbrev pub coefficient_in : List Term → ℕ → ℤ
coefficient_in [] j = pos 0
coefficient_in (t ∷ ts) j = cond (t.0 == j) t.1 (coefficient_in ts j)

-- what a row takes from a variable's cost: the multiplier times the coefficient there
abbrev pub share_of : List Row → ℕ → Weight → ℤ
share_of rows j w = w.1 *ℤ coefficient_in (row_at rows w.0).terms j

-- what is left of a cost after each row took its share
abbrev pub left_of : List Row → ℕ → ℤ → List Weight → ℤ
left_of rows j r [] = r
left_of rows j r (w ∷ ws) = left_of rows j (r -ℤ share_of rows j w) ws

-- a variable's cost times the divisor
abbrev pub scaled_cost : ModelParts → MultiplierList → ℕ → ℤ
scaled_cost m l j = l.d *ℤ coefficient_in m.cost j

-- its reduced cost, as a multiple of one part in the divisor
abbrev pub reduced_cost : ModelParts → MultiplierList → ℕ → ℤ
reduced_cost m l j = left_of m.rows j (scaled_cost m l j) l.y

-- the least value of each reduced cost over its variable's range, from variable j on
abbrev pub least_values : ModelParts → MultiplierList → ℕ → Bounds → List ℤ
least_values m l j [] = []
least_values m l j (r ∷ rs) = term_least (reduced_cost m l j) r ∷ least_values m l (suc j) rs

-- what is added up: the sides, and then the least values
abbrev pub addends : ModelParts → Bounds → MultiplierList → List ℤ
addends m b l = map (side_product b m.rows) l.y ++ least_values m l 0 b

abbrev pub total : List ℤ → ℤ
total [] = pos 0
total (v ∷ vs) = v +ℤ total vs

-- the sum over the divisor, rounded up, and the constant of the objective
abbrev pub bound_number : ModelParts → Bounds → MultiplierList → ℤ
bound_number m b l = ceiling_of (total (addends m b l)) l.d +ℤ m.constant

-- ---- which of them are looked at, in their order

-- a share, and what is left after it
abbrev pub share_numbers : List Row → ℕ → ℤ → List Weight → List ℤ
share_numbers rows j r [] = []
share_numbers rows j r (w ∷ ws) = share_of rows j w ∷ (r -ℤ share_of rows j w) ∷ share_numbers rows j (r -ℤ share_of rows j w) ws

-- of a variable: the scaled cost, the shares with what is left, the least value
abbrev pub variable_numbers : ModelParts → MultiplierList → ℕ → ℤ × ℤ → List ℤ
variable_numbers m l j r =
    scaled_cost m l j ∷ (share_numbers m.rows j (scaled_cost m l j) l.y ++ (term_least (reduced_cost m l j) r ∷ []))

-- of each variable, from variable j on
abbrev pub all_variable_numbers : ModelParts → MultiplierList → ℕ → Bounds → List ℤ
all_variable_numbers m l j [] = []
all_variable_numbers m l j (r ∷ rs) = variable_numbers m l j r ++ all_variable_numbers m l (suc j) rs

-- a sum after each addend
abbrev pub sums_from : ℤ → List ℤ → List ℤ
sums_from s [] = []
sums_from s (v ∷ vs) = (s +ℤ v) ∷ sums_from (s +ℤ v) vs

-- the products of sides, the numbers of the variables, the sum after each addend, and the bound
abbrev pub named_numbers : ModelParts → Bounds → MultiplierList → List ℤ
named_numbers m b l =
    map (side_product b m.rows) l.y
    ++ (all_variable_numbers m l 0 b
    ++ (sums_from (pos 0) (addends m b l)
    ++ (bound_number m b l ∷ [])))

-- ---- the bound

-- a signed number of 128 bits
abbrev pub fits : ℤ → Bool
fits (pos n) = nat_lt n (2 ^ 127)
fits (negsuc n) = nat_lt n (2 ^ 127)

-- the bound, none where one of its numbers passes 128 bits
unfoldable pub bound_of : ModelParts → Bounds → MultiplierList → Option ℤ
bound_of m b l = cond (list_all fits (named_numbers m b l)) (Some (bound_number m b l)) None

-- each row is the model's
pub record AreRowsKnown (m : ModelParts) (l : MultiplierList) : Type 0 where
  pub each : All (λ w. w.0 < length m.rows) l.y

-- the point lies in the box, and each row holds there
pub record KeepsRows (m : ModelParts) (b : Bounds) (x : List ℤ) : Type 0 where
  pub within : IsWithin b x
  pub rows : All (λ row. IsTrue (row_holds row x)) m.rows
