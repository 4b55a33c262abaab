-- Quotients, rounded down and up, against their inequalities.
use Rattle.std.proofs.Common.{◌≡◌, ℕ, zero, suc, ◌+◌, ◌*◌, ◌/◌, ◌^◌, ◌<◌, ◌≤◌, ℤ, pos, negsuc, neg_ℤ, ◌*ℤ◌, ◌≤ℤ◌, refl, arith}
use Rattle.std.specs.Int.{div_ceil}
use Rattle.std.proofs.lemmas.Int.{ints}
use Rattle.std.proofs.lemmas.Nat.{le-div, div-add-mod', mul-le}
use Rattle.std.proofs.lemmas.Grind.{div_ceil_times}
use Rattle.std.proofs.Math.Nat.{lt_of_mul-lt-mul_right}
use Rattle.sp_decimal.specs.DecimalFraction.{DecimalFraction}
use Rattle.sp_decimal.specs.Rounding.{IsFloor, IsCeil}

-- q is the quotient of n and t, rounded down
record IsDown (n t q : ℕ) : Type 0 where
  not_above : q * t ≤ n
  greatest : (m : ℕ) → m * t ≤ n → m ≤ q

-- q is the quotient of n and t, rounded up
record IsUp (n t q : ℕ) : Type 0 where
  not_below : n ≤ q * t
  least : (m : ℕ) → n ≤ m * t → q ≤ m

down : (n t : ℕ) → 0 < t → IsDown n t (n / t)
down n t h = record { not_above = omega (arith, div-add-mod' n t); greatest = λ m e. le-div m n t h e }

up_least : (n t m : ℕ) → 0 < t → n ≤ m * t → div_ceil n t ≤ m
up_least n t m h e =
    let above = (div_ceil_times n t h).1 in
    let next : div_ceil n t * t < (m + 1) * t = omega arith in
    let less = lt_of_mul-lt-mul_right t next in
    omega arith

up : (n t : ℕ) → 0 < t → IsUp n t (div_ceil n t)
up n t h = record { not_below = (div_ceil_times n t h).0; least = λ m e. up_least n t m h e }

-- a negative number of units
pub minus_times : (c t : ℕ) → neg_ℤ (pos c) *ℤ pos t ≡ neg_ℤ (pos (c * t))
minus_times zero t = omega (arith, ints)
minus_times (suc c) t = refl

greatest_positive : (n t q : ℕ) (z : ℤ) → IsDown n t q → (z *ℤ pos t) ≤ℤ pos n → z ≤ℤ pos q
greatest_positive n t q (pos m) d le = let below = d.greatest m (omega (arith, ints)) in omega (arith, ints)
greatest_positive n t q (negsuc m) d le = omega (arith, ints)

none_from_product : (m t : ℕ) → 0 < t → m * t ≤ 0 → m < 1
none_from_product m t h e = let less : m * t < 1 * t = omega arith in lt_of_mul-lt-mul_right t less

greatest_negative : (n t q : ℕ) (z : ℤ) → 0 < t → IsUp n t q → (z *ℤ pos t) ≤ℤ neg_ℤ (pos n) → z ≤ℤ neg_ℤ (pos q)
greatest_negative n t q (pos m) h u le =
    let above = u.least 0 (omega (arith, ints)) in
    let none = none_from_product m t h (omega (arith, ints)) in
    omega (arith, ints)
greatest_negative n t q (negsuc m) h u le = let above = u.least (suc m) (omega (arith, ints)) in omega (arith, ints)

least_positive : (n t q : ℕ) (z : ℤ) → 0 < t → IsUp n t q → pos n ≤ℤ (z *ℤ pos t) → pos q ≤ℤ z
least_positive n t q (pos m) h u le = let above = u.least m (omega (arith, ints)) in omega (arith, ints)
least_positive n t q (negsuc m) h u le = let more = mul-le 1 t (suc m) t (omega arith) (omega arith) in absurd (omega (arith, ints))

least_negative : (n t q : ℕ) (z : ℤ) → IsDown n t q → neg_ℤ (pos n) ≤ℤ (z *ℤ pos t) → neg_ℤ (pos q) ≤ℤ z
least_negative n t q (pos m) d le = omega (arith, ints)
least_negative n t q (negsuc m) d le = let below = d.greatest (suc m) (omega (arith, ints)) in omega (arith, ints)

is_floor_positive : (d : DecimalFraction) (n t q : ℕ) → d.p ≡ pos n → t ≡ 10 ^ d.s → IsDown n t q → IsFloor d (pos q)
is_floor_positive d n t q p e down =
    record { not_above = rw (p, ← e) (omega (arith, ints, down.not_above)); greatest = λ z le. let under = rw (p, ← e) at le in greatest_positive n t q z down under }

is_floor_negative : (d : DecimalFraction) (n t q : ℕ) → d.p ≡ neg_ℤ (pos n) → t ≡ 10 ^ d.s → 0 < t → IsUp n t q → IsFloor d (neg_ℤ (pos q))
is_floor_negative d n t q p e h up =
    record { not_above = rw (p, ← e, minus_times) (omega (arith, ints, up.not_below)); greatest = λ z le. let under = rw (p, ← e) at le in greatest_negative n t q z h up under }

is_ceil_positive : (d : DecimalFraction) (n t q : ℕ) → d.p ≡ pos n → t ≡ 10 ^ d.s → 0 < t → IsUp n t q → IsCeil d (pos q)
is_ceil_positive d n t q p e h up =
    record { not_below = rw (p, ← e) (omega (arith, ints, up.not_below)); least = λ z le. let under = rw (p, ← e) at le in least_positive n t q z h up under }

is_ceil_negative : (d : DecimalFraction) (n t q : ℕ) → d.p ≡ neg_ℤ (pos n) → t ≡ 10 ^ d.s → IsDown n t q → IsCeil d (neg_ℤ (pos q))
is_ceil_negative d n t q p e down =
    record { not_below = rw (p, ← e, minus_times) (omega (arith, ints, down.not_above)); least = λ z le. let under = rw (p, ← e) at le in least_negative n t q z down under }

pub floor_positive : (d : DecimalFraction) (n t : ℕ) (r : ℤ) → d.p ≡ pos n → t ≡ 10 ^ d.s → 0 < t → r ≡ pos (n / t) → IsFloor d r
floor_positive d n t r p e h is = rw is (is_floor_positive d n t (n / t) p e (down n t h))

pub floor_negative : (d : DecimalFraction) (n t : ℕ) (r : ℤ) → d.p ≡ neg_ℤ (pos n) → t ≡ 10 ^ d.s → 0 < t → r ≡ neg_ℤ (pos (div_ceil n t)) → IsFloor d r
floor_negative d n t r p e h is = rw is (is_floor_negative d n t (div_ceil n t) p e h (up n t h))

pub ceil_positive : (d : DecimalFraction) (n t : ℕ) (r : ℤ) → d.p ≡ pos n → t ≡ 10 ^ d.s → 0 < t → r ≡ pos (div_ceil n t) → IsCeil d r
ceil_positive d n t r p e h is = rw is (is_ceil_positive d n t (div_ceil n t) p e h (up n t h))

pub ceil_negative : (d : DecimalFraction) (n t : ℕ) (r : ℤ) → d.p ≡ neg_ℤ (pos n) → t ≡ 10 ^ d.s → 0 < t → r ≡ neg_ℤ (pos (n / t)) → IsCeil d r
ceil_negative d n t r p e h is = rw is (is_ceil_negative d n t (n / t) p e (down n t h))

pub div_ceil-le : (n t : ℕ) → 0 < t → div_ceil n t ≤ n
div_ceil-le n t h = let more = mul-le n 1 n t (omega arith) h in up_least n t n h (omega arith)

pub div-le : (n t : ℕ) → 0 < t → n / t ≤ n
div-le n t h = let more = mul-le (n / t) 1 (n / t) t (omega arith) h in omega (arith, div-add-mod' n t)
