-- The whole numbers next to a number with decimal places.
use Rattle.std.specs.Prelude.{◌^◌, ℤ, pos, neg_ℤ, ◌*ℤ◌, ◌≤ℤ◌}
use Rattle.std.specs.Int.{int_div_euclid}
use Rattle.sp_decimal.specs.DecimalFraction.{DecimalFraction, opposite}

-- the greatest whole number that isn't above the decimal
pub record IsFloor (d : DecimalFraction) (n : ℤ) : Type 0 where
  pub not_above : (n *ℤ pos (10 ^ d.s)) ≤ℤ d.p
  pub greatest : (z : ℤ) → (z *ℤ pos (10 ^ d.s)) ≤ℤ d.p → z ≤ℤ n

-- the least whole number that isn't below the decimal
pub record IsCeil (d : DecimalFraction) (n : ℤ) : Type 0 where
  pub not_below : d.p ≤ℤ (n *ℤ pos (10 ^ d.s))
  pub least : (z : ℤ) → d.p ≤ℤ (z *ℤ pos (10 ^ d.s)) → n ≤ℤ z

-- the first as a function: the quotient, rounded down
unfoldable pub floor_of : DecimalFraction → ℤ
floor_of d = int_div_euclid d.p (pos (10 ^ d.s))

-- the second as a function
unfoldable pub ceil_of : DecimalFraction → ℤ
ceil_of d = neg_ℤ (floor_of (opposite d))
