-- Ranges and boxes within others.
use Rattle.std.specs.Prelude.{◌≡◌, ℕ, ◌<◌, List, length, ℤ, ◌≤ℤ◌}
use Rattle.sp_model.specs.Boxes.{Bounds, IsWithin, range_at}

-- r isn't empty, and lies within q
pub record IsPart (q r : ℤ × ℤ) : Type 0 where
  pub lower : q.0 ≤ℤ r.0
  pub filled : r.0 ≤ℤ r.1
  pub upper : r.1 ≤ℤ q.1

-- each range isn't empty and lies within the root's
pub record IsInside (root b : Bounds) : Type 0 where
  pub long : length b ≡ length root
  pub each : (j : ℕ) → j < length root → IsPart (range_at root j) (range_at b j)

-- no range is empty
pub record IsFilled (b : Bounds) : Type 0 where
  pub each : (j : ℕ) → j < length b → (range_at b j).0 ≤ℤ (range_at b j).1

-- the variable is known, and its range may become r: that isn't empty, and lies within the root's
pub record IsChange (root : Bounds) (j : ℕ) (r : ℤ × ℤ) : Type 0 where
  pub known : j < length root
  pub part : IsPart (range_at root j) r

-- the point is the only one of the box: each range is its value alone
pub record IsPointBox (b : Bounds) (x : List ℤ) : Type 0 where
  pub within : IsWithin b x
  pub single : (j : ℕ) → j < length b → (range_at b j).0 ≡ (range_at b j).1
