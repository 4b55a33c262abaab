-- What only private functions speak of: numbers that end where they pass 128 bits.
use Rattle.std.specs.Prelude.{◌≡◌, ℕ, suc, ◌+◌, ◌-◌, ◌*◌, ◌^◌, ◌<◌, ◌≤◌, Bool, true, not, ◌&&◌, cond, List, [], ◌∷◌, length, map, slice_index_or, All, AllPairs, Option, None, Some, ℤ, pos, negsuc, ◌+ℤ◌, ◌-ℤ◌, ◌*ℤ◌, int_le, int_lt, unsigned_abs}
use Rattle.std.specs.List.{list_all}
use Rattle.sp_model.specs.declared.parts.Row.{Row}
use Rattle.sp_model.specs.declared.parts.ModelParts.{ModelParts}
use Rattle.sp_model.specs.Boxes.{Bounds}
use Rattle.sp_model.specs.Models.{root_of}
use Rattle.sp_model.specs.Rounds.{ceiling_of}
use Rattle.sp_model.specs.Stated.{is_at_most}
use Rattle.sp_model.specs.Sums.{Term, reach}
use Rattle.sp_sums.specs.Extremes.{term_least}
use Rattle.sp_dual.specs.Lists.{MultiplierList}
use Rattle.sp_sums.specs.Rows.{row_at}
use Rattle.sp_bound.specs.Bounds.{Weight, coefficient_in, fits, reduced_cost, scaled_cost, share_numbers, share_of, side_product, total}
use Rattle.sp_bound.specs.Closing.{is_above}

-- the number, none where it passes 128 bits
abbrev pub if_fits : ℤ → Option ℤ
if_fits z = cond (fits z) (Some z) None

-- a sum that may have ended, with an addend that may have
abbrev pub plus : Option ℤ → Option ℤ → Option ℤ
plus None v = None
plus (Some s) None = None
plus (Some s) (Some v) = if_fits (s +ℤ v)

abbrev pub minus : Option ℤ → Option ℤ → Option ℤ
minus None v = None
minus (Some s) None = None
minus (Some s) (Some v) = if_fits (s -ℤ v)

-- a sum with the products of these sides
abbrev pub plus_sides : Bounds → List Row → Option ℤ → List Weight → Option ℤ
plus_sides b rows s [] = s
plus_sides b rows s (w ∷ ws) = plus_sides b rows (plus s (if_fits (side_product b rows w))) ws

-- a cost without the shares of these rows
abbrev pub minus_shares : List Row → ℕ → Option ℤ → List Weight → Option ℤ
minus_shares rows j s [] = s
minus_shares rows j s (w ∷ ws) = minus_shares rows j (minus s (if_fits (share_of rows j w))) ws

-- the reduced cost
abbrev pub reduced : ModelParts → MultiplierList → ℕ → Option ℤ
reduced m l j = minus_shares m.rows j (if_fits (scaled_cost m l j)) l.y

-- the least value of a reduced cost over a range
abbrev pub least_value : Option ℤ → ℤ × ℤ → Option ℤ
least_value None r = None
least_value (Some c) r = if_fits (term_least c r)

-- a sum with the least values over these ranges, of which the first is that of variable j
abbrev pub plus_values : (ℕ → Option ℤ) → ℕ → Option ℤ → Bounds → Option ℤ
plus_values costs j s [] = s
plus_values costs j s (r ∷ rs) = plus_values costs (suc j) (plus s (least_value (costs j) r)) rs

-- the bound of a sum
abbrev pub ended : ModelParts → MultiplierList → Option ℤ → Option ℤ
ended m l None = None
ended m l (Some s) = if_fits (ceiling_of s l.d +ℤ m.constant)

-- ---- costs beside the variables

-- a number that is there fits
abbrev pub IsHeld : Option ℤ → Type 0
IsHeld None = Unit {0}
IsHeld (Some z) = fits z ≡ true

abbrev pub AreHeld : List (Option ℤ) → Type 0
AreHeld costs = All IsHeld costs

-- the cost of a variable, none past the last one
abbrev pub cost_at : List (Option ℤ) → ℕ → Option ℤ
cost_at costs j = slice_index_or costs j None

-- each cost and a multiple of its variable's coefficient make the new one
pub record Changes (op : Option ℤ → Option ℤ → Option ℤ) (factor : ℤ) (ts : List Term) (old new : List (Option ℤ)) : Type 0 where
  pub long : length new ≡ length old
  pub held : AreHeld new
  pub each : (j : ℕ) → j < length old → cost_at new j ≡ op (cost_at old j) (if_fits (factor *ℤ coefficient_in ts j))

-- rising terms of so many variables
pub record IsRising (count : ℕ) (ts : List Term) : Type 0 where
  pub known : All (λ t. t.0 < count) ts
  pub rising : AllPairs (λ t u. t.0 < u.0) ts

-- those of the objective and of each row
pub record AreRowsRising (m : ModelParts) (count : ℕ) : Type 0 where
  pub cost : IsRising count m.cost
  pub rows : (k : ℕ) → k < length m.rows → IsRising count (row_at m.rows k).terms

-- the reduced costs of so many variables
pub record AreReduced (m : ModelParts) (l : MultiplierList) (count : ℕ) (costs : List (Option ℤ)) : Type 0 where
  pub long : length costs ≡ count
  pub each : (j : ℕ) → j < count → cost_at costs j ≡ reduced m l j

-- the first so many of all costs are 0
pub record AreCleared (done count : ℕ) (costs : List (Option ℤ)) : Type 0 where
  pub long : length costs ≡ count
  pub each : (k : ℕ) (d : Option ℤ) → k < done → slice_index_or costs k d ≡ Some (pos 0)

-- ---- lists that are kept

abbrev pub sizes : List ℤ → ℕ
sizes [] = 0
sizes (v ∷ vs) = unsigned_abs v + sizes vs

-- how far the values of these costs can be from 0
abbrev pub spread : (ℕ → ℤ) → ℕ → Bounds → ℕ
spread c j [] = 0
spread c j (r ∷ rs) = unsigned_abs (c j) * reach r + spread c (suc j) rs

-- the numbers of a reduced cost fit
abbrev pub is_reduced : ModelParts → MultiplierList → ℕ → Bool
is_reduced m l j = fits (scaled_cost m l j) && list_all fits (share_numbers m.rows j (scaled_cost m l j) l.y)

-- the reduced costs' numbers fit, the sides are the same on each box, and all that is added up stays within 10^36 on the closed box
pub record IsSafe (m : ModelParts) (l : MultiplierList) : Type 0 where
  pub reduced : (j : ℕ) → j < length (root_of m) → is_reduced m l j ≡ true
  pub sided : (b : Bounds) → map (side_product b m.rows) l.y ≡ map (side_product (root_of m) m.rows) l.y
  pub small : sizes (map (side_product (root_of m) m.rows) l.y) + spread (reduced_cost m l) 0 (root_of m) ≤ 10 ^ 36

-- the sum of the sides' products on the closed box
abbrev pub side_total : ModelParts → MultiplierList → ℤ
side_total m l = total (map (side_product (root_of m) m.rows) l.y)

-- a sum v of at most 10^36 in magnitude is at most this side exactly where it and the sides aren't above the product
pub record IsSideAt (product sides : ℤ) (hi : Option ℤ) : Type 0 where
  pub tells : (v : ℤ) → unsigned_abs v ≤ 10 ^ 36 → is_at_most hi v ≡ int_le (sides +ℤ v) product

-- and where the bound that they make isn't above the threshold
pub record IsSideOf (t : Option ℤ) (k d sides : ℤ) (hi : Option ℤ) : Type 0 where
  pub tells : (v : ℤ) → unsigned_abs v ≤ 10 ^ 36 → is_at_most hi v ≡ not (is_above t (Some (ceiling_of (sides +ℤ v) d +ℤ k)))

-- a side that is above every small sum, or below
abbrev pub far_side : ℤ → Option ℤ
far_side z = cond (int_lt (pos 0) z) None (Some (negsuc (2 ^ 127 - 1)))

-- the side, and the far side of the number where it has none
abbrev pub side_or_far : ℤ → Option ℤ → Option ℤ
side_or_far z None = far_side z
side_or_far z (Some side) = Some side
