-- The floor and the ceiling are the quotients that the functions compute.
use Rattle.std.proofs.Common.{◌≡◌, ℕ, suc, ◌+◌, ◌*◌, ◌/◌, ◌^◌, ◌<◌, mod-lt, ℤ, pos, negsuc, neg_ℤ, ◌*ℤ◌, ◌≤ℤ◌, refl, sym, ap, arith}
use Rattle.std.specs.Int.{div_ceil, int_div_euclid}
use Rattle.std.proofs.lemmas.Int.{ints}
use Rattle.std.proofs.lemmas.Nat.{div-add-mod'}
use Rattle.std.proofs.lemmas.Grind.{div_ceil_times}
use Rattle.std.proofs.Math.Nat.{lt_of_mul-lt-mul_right}
use Rattle.sp_decimal.specs.DecimalFraction.{DecimalFraction, opposite}
use Rattle.sp_decimal.specs.Rounding.{IsFloor, IsCeil, floor_of, ceil_of}
use Rattle.sp_decimal.proofs.PowerLemmas.{power-positive}
use Rattle.sp_decimal.proofs.RoundingLemmas.{floor_positive, floor_negative, minus_times}

-- rounded up, the quotient of the next number is one more
div_ceil-suc : (m t : ℕ) → 0 < t → div_ceil (suc m) t ≡ suc (m / t)
div_ceil-suc m t h =
    let up = div_ceil_times (suc m) t h in
    let down = div-add-mod' m t in
    let rest = mod-lt m h in
    let low : m / t * t < div_ceil (suc m) t * t = omega arith in
    let high : div_ceil (suc m) t * t < (m / t + 2) * t = omega arith in
    let more = lt_of_mul-lt-mul_right t low in
    let less = lt_of_mul-lt-mul_right t high in
    omega arith

floor_at : (d : DecimalFraction) (p : ℤ) → d.p ≡ p → IsFloor d (int_div_euclid p (pos (10 ^ d.s)))
floor_at d (pos n) e = floor_positive d n (10 ^ d.s) (pos (n / 10 ^ d.s)) e refl (power-positive d.s) refl
floor_at d (negsuc m) e =
    floor_negative d (suc m) (10 ^ d.s) (negsuc (m / 10 ^ d.s)) e refl (power-positive d.s)
    (ap (λ k. neg_ℤ (pos k)) (sym (div_ceil-suc m (10 ^ d.s) (power-positive d.s))))

-- the floor is the rounded quotient
pub floor-is : (d : DecimalFraction) (r : ℤ) → IsFloor d r → r ≡ floor_of d
unfolding floor_of
floor-is d r f =
    let g = floor_at d d.p refl in
    let low = g.greatest r f.not_above in
    let high = f.greatest (floor_of d) g.not_above in
    omega (arith, ints)

neg-times : (r : ℤ) (t : ℕ) → neg_ℤ r *ℤ pos t ≡ neg_ℤ (r *ℤ pos t)
neg-times (pos n) t = minus_times n t
neg-times (negsuc n) t = omega (arith, ints)

-- the opposite of a ceiling is the floor of the opposite
floor-opposite : (d : DecimalFraction) (r : ℤ) → IsCeil d r → IsFloor (opposite d) (neg_ℤ r)
floor-opposite d r f =
    record {
      not_above = let h = f.not_below in let e = neg-times r (10 ^ d.s) in omega (arith, ints);
      greatest = λ z le. let e = neg-times z (10 ^ d.s) in
          let above : d.p ≤ℤ (neg_ℤ z *ℤ pos (10 ^ d.s)) = omega (arith, ints) in
          let h = f.least (neg_ℤ z) above in omega (arith, ints);
    }

-- the ceiling is the quotient, rounded up
pub ceil-is : (d : DecimalFraction) (r : ℤ) → IsCeil d r → r ≡ ceil_of d
unfolding ceil_of
ceil-is d r f = let e = floor-is (opposite d) (neg_ℤ r) (floor-opposite d r f) in omega (arith, ints)
