-- What a model means: which points are feasible, and what each is worth.
use Rattle.std.specs.Prelude.{◌≡◌, ℕ, ◌+◌, Bool, true, false, not, ◌&&◌, ◌||◌, ◌==◌, nat_le, List, [], ◌∷◌, map, filter, count_by, All, Option, None, Some, ℤ, pos, ◌+ℤ◌, ◌≤ℤ◌, int_le, IsTrue}
use Rattle.std.specs.List.{list_all}
use Rattle.std.specs.Ordering.{int_eq}
use Rattle.sp_model.specs.declared.parts.Row.{Row}
use Rattle.sp_model.specs.declared.parts.Indicator.{Indicator}
use Rattle.sp_model.specs.declared.parts.Sos.{Sos}
use Rattle.sp_model.specs.declared.parts.SosKind.{SosKind}
use Rattle.sp_model.specs.declared.parts.SosKind.TheVariants.{One, Two}
use Rattle.sp_model.specs.declared.parts.ModelParts.{ModelParts}
use Rattle.sp_model.specs.Boxes.{Bounds, coordinate, points}
use Rattle.sp_model.specs.Rounds.{closed, rounded}
use Rattle.sp_model.specs.Stated.{KeepsBounds, core_holds, is_at_least, is_at_most, stated_of}
use Rattle.sp_model.specs.Sums.{sum_at, width_over, side_width}

-- the row's sum lies between its sides
abbrev pub row_holds : Row → List ℤ → Bool
row_holds row x = is_at_least row.lo (sum_at row.terms x) && is_at_most row.hi (sum_at row.terms x)

-- 1 for on, 0 for off
abbrev pub switch_value : Bool → ℤ
switch_value true = pos 1
switch_value false = pos 0

-- the row holds where the variable equals on
abbrev pub indicator_holds : Indicator → List ℤ → Bool
indicator_holds i x = not (int_eq (coordinate x i.var) (switch_value i.on)) || row_holds i.row x

abbrev pub is_nonzero : ℤ → Bool
is_nonzero v = not (int_eq v (pos 0))

-- two neighbours, neither of them zero
abbrev pub has_neighbours : List ℤ → Bool
has_neighbours [] = false
has_neighbours (v ∷ []) = false
has_neighbours (v ∷ w ∷ vs) = (is_nonzero v && is_nonzero w) || has_neighbours (w ∷ vs)

-- at most one value isn't zero; in a set of kind Two also two that are neighbours
abbrev pub set_allows : SosKind → List ℤ → Bool
set_allows One vs = nat_le (count_by is_nonzero vs) 1
set_allows Two vs = nat_le (count_by is_nonzero vs) 1 || ((count_by is_nonzero vs == 2) && has_neighbours vs)

-- the set allows the values of its members
abbrev pub set_holds : Sos → List ℤ → Bool
set_holds set x = set_allows set.kind (map (coordinate x) set.vars)

-- the closed box of a model of which no bound is missing after the rounds
unfoldable pub root_of : ModelParts → Bounds
root_of m = map closed (rounded m)

-- the point keeps the stated bounds, each semi-integer variable is 0 or lies within its core, and each row, indicator and set holds
pub record Feasible (m : ModelParts) (x : List ℤ) : Type 0 where
  pub within : KeepsBounds (stated_of m) x
  pub cores : All (λ c. IsTrue (core_holds c x)) m.semi
  pub rows : All (λ row. IsTrue (row_holds row x)) m.rows
  pub indicators : All (λ i. IsTrue (indicator_holds i x)) m.indicators
  pub sets : All (λ set. IsTrue (set_holds set x)) m.sos

-- each semi-integer variable, row, indicator and set, as a test
abbrev pub constraints_hold : ModelParts → List ℤ → Bool
constraints_hold m x =
    ((list_all (λ c. core_holds c x) m.semi && list_all (λ row. row_holds row x) m.rows)
    && list_all (λ i. indicator_holds i x) m.indicators)
    && list_all (λ set. set_holds set x) m.sos

-- the feasible points in lexicographic order: those of the closed box that pass each constraint
abbrev pub feasible_points : ModelParts → List (List ℤ)
feasible_points m = filter (constraints_hold m) (points (root_of m))

-- the objective in scaled units, in the minimising direction
abbrev pub objective : ModelParts → List ℤ → ℤ
objective m x = m.constant +ℤ sum_at m.cost x

-- a feasible point has this objective, and none has a lesser one
pub record IsLeast (m : ModelParts) (v : ℤ) : Type 0 where
  pub reached : (x : List ℤ) × Feasible m x × (objective m x ≡ v)
  pub least : (x : List ℤ) → Feasible m x → v ≤ℤ objective m x

-- the least objective over the feasible points, or none where no point is feasible
abbrev pub IsOptimum : ModelParts → Option ℤ → Type 0
IsOptimum m None = (x : List ℤ) → ¬ Feasible m x
IsOptimum m (Some v) = IsLeast m v

-- the widths of a row and of the objective
abbrev pub row_width : Bounds → Row → ℕ
row_width b row = width_over b row.terms + side_width row.lo + side_width row.hi

abbrev pub objective_width : ModelParts → ℕ
objective_width m = width_over (root_of m) m.cost + side_width (Some m.constant)
