-- Boxes that reach no farther than another, and may be empty.
use Rattle.std.specs.Prelude.{◌≡◌, ℕ, ◌<◌, length, ℤ, ◌≤ℤ◌}
use Rattle.sp_model.specs.Boxes.{Bounds, range_at}

-- r begins and ends within q; it may be empty
pub record IsCovered (q r : ℤ × ℤ) : Type 0 where
  pub lower : q.0 ≤ℤ r.0
  pub upper : r.1 ≤ℤ q.1

-- as many ranges, each of them covered by the root's
pub record IsUnder (root b : Bounds) : Type 0 where
  pub long : length b ≡ length root
  pub each : (j : ℕ) → j < length root → IsCovered (range_at root j) (range_at b j)
