-- Stated bounds, of which any may be missing, and the cores of semi-integer variables.
use Rattle.std.specs.Prelude.{◌≡◌, ℕ, ◌<◌, Bool, true, ◌||◌, ◌&&◌, ◌==◌, List, length, slice_index_or, Option, None, Some, IsSome, IsTrue, cond, ℤ, pos, int_le, ◌≤ℤ◌}
use Rattle.std.specs.Int.{int_min, int_max}
use Rattle.std.specs.List.{list_any, zip}
use Rattle.std.specs.Ordering.{int_eq}
use Rattle.sp_model.specs.declared.parts.ModelParts.{ModelParts}
use Rattle.sp_model.specs.Boxes.{coordinate}

-- ---- bounds that may be missing

-- the lower and the upper bound of a variable
abbrev pub OpenRange : Type 0
OpenRange = Option ℤ × Option ℤ

abbrev pub OpenBounds : Type 0
OpenBounds = List OpenRange

-- the bounds of a variable, none past the last one
abbrev pub open_at : OpenBounds → ℕ → OpenRange
open_at b j = slice_index_or b j (None, None)

-- the value isn't below the bound; a missing one excludes nothing
abbrev pub is_at_least : Option ℤ → ℤ → Bool
is_at_least None v = true
is_at_least (Some bound) v = int_le bound v

-- the value isn't above the bound; a missing one excludes nothing
abbrev pub is_at_most : Option ℤ → ℤ → Bool
is_at_most None v = true
is_at_most (Some bound) v = int_le v bound

-- the value keeps the bounds that are there
pub record KeepsRange (r : OpenRange) (v : ℤ) : Type 0 where
  pub least : IsTrue (is_at_least r.0 v)
  pub greatest : IsTrue (is_at_most r.1 v)

-- the point has one value for each variable, and each value keeps the bounds that are there
pub record KeepsBounds (b : OpenBounds) (x : List ℤ) : Type 0 where
  pub long : length x ≡ length b
  pub each : (j : ℕ) → j < length b → KeepsRange (open_at b j) (coordinate x j)

-- no bound is missing
pub record IsClosedRange (r : OpenRange) : Type 0 where
  pub lower : IsSome r.0
  pub upper : IsSome r.1

-- the bounds that a model states
abbrev pub stated_of : ModelParts → OpenBounds
stated_of m = zip m.lower m.upper

-- ---- cores

-- a semi-integer variable, which is 0 or lies within its core, with the core's lower and upper bound
abbrev pub Core : Type 0
Core = ℕ × ℤ × ℤ

-- 0, or a value of the core
abbrev pub core_allows : Core → ℤ → Bool
core_allows c v = int_eq v (pos 0) || (int_le c.1 v && int_le v c.2)

abbrev pub core_holds : Core → List ℤ → Bool
core_holds c x = core_allows c (coordinate x c.0)

-- the least range that holds 0 and the core: 0 alone where the core is empty
abbrev pub widened : Core → ℤ × ℤ
widened c = cond (int_le c.1 c.2) (int_min (pos 0) c.1, int_max (pos 0) c.2) (pos 0, pos 0)

-- the variable is semi-integer
abbrev pub is_semi : List Core → ℕ → Bool
is_semi cores j = list_any (λ c. c.0 == j) cores
