-- Numbers with decimal places.
use Rattle.std.specs.Prelude.{◌≢◌, ℕ, ◌%◌, ◌^◌, ◌<◌, ◌≤◌, ℤ, neg_ℤ, unsigned_abs}

-- the most digits of a decimal, and the most of them that stand behind the point
abbrev pub most_digits : ℕ
most_digits = 30

abbrev pub most_places : ℕ
most_places = 30

-- a number of this magnitude or more is huge
abbrev pub huge_from : ℕ
huge_from = 10 ^ most_digits

-- the number p / 10^s
pub record DecimalFraction : Type 0 where
  pub p : ℤ
  pub s : ℕ

-- the number with the other sign
abbrev pub opposite : DecimalFraction → DecimalFraction
opposite d = record { p = neg_ℤ d.p; s = d.s }

-- fewer than thirty-one digits, at most thirty of them behind the point, and the last of those isn't 0
pub record IsDecimal (p : ℤ) (s : ℕ) : Type 0 where
  pub small : unsigned_abs p < huge_from
  pub places : s ≤ most_places
  pub least : 0 < s → unsigned_abs p % 10 ≢ 0
