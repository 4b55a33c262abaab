-- A number against a whole number, by its floor and by its ceiling.
use Rattle.std.proofs.Common.{◌≡◌, ℕ, suc, ◌^◌, true, false, inl, inr, ℤ, pos, negsuc, ◌*ℤ◌, ◌≤ℤ◌, ◌<ℤ◌, int_le, sym, ◌∙◌, arith}
use Rattle.std.proofs.lemmas.Bool.{cases_Bool}
use Rattle.std.proofs.lemmas.Int.{ints}
use Rattle.std.proofs.Math.Nat.{mul-le-mul_right}
use Rattle.sp_decimal.specs.DecimalFraction.{DecimalFraction}
use Rattle.sp_decimal.specs.Rounding.{IsFloor, IsCeil}

times_rises : (a b : ℤ) (t : ℕ) → a ≤ℤ b → (a *ℤ pos t) ≤ℤ (b *ℤ pos t)
times_rises (pos m) (pos n) t h = let k = mul-le-mul_right {m = m} {n = n} t (omega (arith, ints)) in omega (arith, ints)
times_rises (pos m) (negsuc n) t h = absurd (omega (arith, ints))
times_rises (negsuc m) (pos n) t h = omega (arith, ints)
times_rises (negsuc m) (negsuc n) t h = let k = mul-le-mul_right {m = suc n} {n = suc m} t (omega (arith, ints)) in omega (arith, ints)

test_le : (a b : ℤ) → int_le a b ≡ true → a ≤ℤ b
test_le a b h = grind (arith, ints)

le_test : (a b : ℤ) → a ≤ℤ b → int_le a b ≡ true
le_test a b h = grind (arith, ints)

lt_test : (a b : ℤ) → b <ℤ a → int_le a b ≡ false
lt_test a b h = grind (arith, ints)

test_lt : (a b : ℤ) → int_le a b ≡ false → b <ℤ a
test_lt a b h = grind (arith, ints)

same_test : (a b c e : ℤ) → (a ≤ℤ b → c ≤ℤ e) → (c ≤ℤ e → a ≤ℤ b) → int_le a b ≡ int_le c e
same_test a b c e f g =
    elim (cases_Bool (int_le c e)) [
      | inl t ↦ le_test a b (g (test_le c e t)) ∙ sym t
      | inr h ↦ (let above = test_lt c e h in elim (cases_Bool (int_le a b)) [
        | inl t ↦ (let under = f (test_le a b t) in absurd (omega (arith, ints)))
        | inr k ↦ k ∙ sym h
      ])
    ]

-- a whole number is at most the floor exactly where it is at most the number
pub floor_test : (d : DecimalFraction) (n z : ℤ) → IsFloor d n → int_le z n ≡ int_le (z *ℤ pos (10 ^ d.s)) d.p
floor_test d n z f =
    same_test z n (z *ℤ pos (10 ^ d.s)) d.p
    (λ h. let k = times_rises z n (10 ^ d.s) h in let l = f.not_above in omega (arith, ints))
    (λ h. f.greatest z h)

-- the ceiling is at most a whole number exactly where the number is
pub ceil_test : (d : DecimalFraction) (n z : ℤ) → IsCeil d n → int_le n z ≡ int_le d.p (z *ℤ pos (10 ^ d.s))
ceil_test d n z f =
    same_test n z d.p (z *ℤ pos (10 ^ d.s))
    (λ h. let k = times_rises n z (10 ^ d.s) h in let l = f.not_below in omega (arith, ints))
    (λ h. f.least z h)
