-- Sums of terms, at a point and at their widest.
use Rattle.std.specs.Prelude.{ℕ, ◌+◌, ◌*◌, ◌^◌, ◌<◌, ◌≤◌, max, List, [], ◌∷◌, length, All, Option, None, Some, ℤ, pos, ◌+ℤ◌, ◌*ℤ◌, unsigned_abs}
use Rattle.sp_model.specs.Boxes.{Bounds, range_at, coordinate}

-- a variable with its coefficient
abbrev pub Term : Type 0
Term = ℕ × ℤ

-- the sum of the terms at a point
abbrev pub sum_at : List Term → List ℤ → ℤ
sum_at [] x = pos 0
sum_at (t ∷ ts) x = (t.1 *ℤ coordinate x t.0) +ℤ sum_at ts x

-- how far a value of a range can be from 0, and at least 1
abbrev pub reach : ℤ × ℤ → ℕ
reach r = max 1 (max (unsigned_abs r.0) (unsigned_abs r.1))

-- the width of a sum over a box: the magnitude of each coefficient times the reach of its variable, added up
abbrev pub width_over : Bounds → List Term → ℕ
width_over b [] = 0
width_over b (t ∷ ts) = unsigned_abs t.1 * reach (range_at b t.0) + width_over b ts

-- the magnitude of a side, 0 where there is none
abbrev pub side_width : Option ℤ → ℕ
side_width None = 0
side_width (Some v) = unsigned_abs v

-- the magnitudes of the terms at a point, added up
abbrev pub magnitude : List Term → List ℤ → ℕ
magnitude [] x = 0
magnitude (t ∷ ts) x = unsigned_abs (t.1 *ℤ coordinate x t.0) + magnitude ts x

-- at a point of so many values: the variables are known, and the sum of the magnitudes is at most 10^36
pub record AreTermsSafe (ts : List Term) (x : List ℤ) : Type 0 where
  pub known : All (λ t. t.0 < length x) ts
  pub small : magnitude ts x ≤ 10 ^ 36
