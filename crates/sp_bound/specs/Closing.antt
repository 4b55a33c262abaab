-- Lists that close a box: their bound there is above a threshold.
use Rattle.std.specs.Prelude.{◌≡◌, ℕ, ◌<◌, Bool, true, false, cond, List, [], ◌∷◌, length, slice_index_or, Option, None, Some, ℤ, pos, int_lt}
use Rattle.sp_model.specs.declared.parts.Row.{Row}
use Rattle.sp_model.specs.declared.parts.ModelParts.{ModelParts}
use Rattle.sp_model.specs.Boxes.{Bounds}
use Rattle.sp_dual.specs.Lists.{MultiplierList, zero_list}
use Rattle.sp_sums.specs.Rows.{row_at}
use Rattle.sp_bound.specs.Bounds.{Weight, bound_of}

-- the bound is there and above the threshold; without a threshold none is
abbrev pub is_above : Option ℤ → Option ℤ → Bool
is_above None v = false
is_above (Some t) None = false
is_above (Some t) (Some v) = int_lt t v

-- the list closes the box under the threshold
abbrev pub closes : ModelParts → Bounds → Option ℤ → MultiplierList → Bool
closes m b t l = is_above t (bound_of m b l)

-- the list at a place, the empty one past the last
abbrev pub list_at : List MultiplierList → ℕ → MultiplierList
list_at ls k = slice_index_or ls k zero_list

-- the list at the place has this bound over the box, if it has one
pub record HasBound (m : ModelParts) (b : Bounds) (ls : List MultiplierList) (k : ℕ) (bound : Option ℤ) : Type 0 where
  pub known : k < length ls
  pub exact : bound ≡ bound_of m b (list_at ls k)

-- the list at the place closes the box
pub record IsClosing (m : ModelParts) (b : Bounds) (t : Option ℤ) (ls : List MultiplierList) (k : ℕ) : Type 0 where
  pub known : k < length ls
  pub closes : closes m b t (list_at ls k) ≡ true

-- no list closes it
pub record IsLeftOpen (m : ModelParts) (b : Bounds) (t : Option ℤ) (ls : List MultiplierList) : Type 0 where
  pub each : (k : ℕ) → k < length ls → closes m b t (list_at ls k) ≡ false

-- the side that the multiplier names, if the row has it
abbrev pub named_side : Row → ℤ → Option ℤ
named_side row y = cond (int_lt (pos 0) y) row.lo row.hi

-- a list of one row that lacks the side
pub record IsIdle (m : ModelParts) (l : MultiplierList) : Type 0 where
  pub weight : Weight
  pub alone : l.y ≡ weight ∷ []
  pub missing : named_side (row_at m.rows weight.0) weight.1 ≡ None
