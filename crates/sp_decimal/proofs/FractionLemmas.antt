-- Equal fractions are read alike.
use Rattle.std.proofs.Common.{◌≡◌, ℕ, ◌*◌, ◌/◌, ◌%◌, ◌^◌, ◌<◌, ◌≤◌, Bool, eqb, leb, List, [], ◌∷◌, Option, None, Some, refl, sym, ap, ◌∙◌, arith}
use Rattle.std.proofs.Math.Nat.{mul_comm, mul-le-mul_right, le_of_mul-le-mul_right, mul-div-mul_right, mul-mod_left, eq_of_mul-eq-mul_right, mul_right_comm}
use Rattle.std.proofs.lemmas.Nat.{div-add-mod'}
use Rattle.std.proofs.lemmas.Bool.Decides.{nat_tests}
use Rattle.std.specs.List.{find, range_with_len}
use Rattle.sp_decimal.specs.Numerals.{least_places, with_places, fraction_numeral}

-- equal fractions have equal multiples
multiple-equal : (a b c d k : ℕ) → a * d ≡ c * b → (a * k) * d ≡ (c * k) * b
multiple-equal a b c d k e = mul_right_comm a k d ∙ ap (λ n. n * k) e ∙ mul_right_comm c b k

-- equal fractions have equal quotients
quotient-equal : (a b c d : ℕ) → 0 < b → 0 < d → a * d ≡ c * b → a / b ≡ c / d
quotient-equal a b c d hb hd e =
    sym (mul-div-mul_right a b hd) ∙ ap (λ n. n / (b * d)) e ∙ ap (λ n. c * b / n) (mul_comm b d) ∙ mul-div-mul_right c d hb

-- a fraction is whole where its denominator times the quotient is all
whole-quotient : (a b : ℕ) → a % b ≡ 0 → a ≡ a / b * b
whole-quotient a b h = omega (arith, div-add-mod' a b)

-- tests that hold together are equal
eqb_agree : (m n p q : ℕ) → (m ≡ n → p ≡ q) → (p ≡ q → m ≡ n) → eqb m n ≡ eqb p q
eqb_agree m n p q f g = grind (arith, nat_tests)

leb_agree : (m n p q : ℕ) → (m ≤ n → p ≤ q) → (p ≤ q → m ≤ n) → leb m n ≡ leb p q
leb_agree m n p q f g = grind (arith, nat_tests)

whole-other : (a b c d : ℕ) → 0 < b → 0 < d → a * d ≡ c * b → a % b ≡ 0 → c % d ≡ 0
whole-other a b c d hb hd e h =
    let q : c * b ≡ a / b * d * b = sym e ∙ ap (λ n. n * d) (whole-quotient a b h) ∙ mul_right_comm (a / b) b d in
    let r : c ≡ a / b * d = eq_of_mul-eq-mul_right b hb c (a / b * d) q in
    rw r (mul-mod_left (a / b) d)

-- of equal fractions both are whole or none
whole-equal : (a b c d : ℕ) → 0 < b → 0 < d → a * d ≡ c * b → eqb (a % b) 0 ≡ eqb (c % d) 0
whole-equal a b c d hb hd e =
    eqb_agree (a % b) 0 (c % d) 0 (whole-other a b c d hb hd e) (whole-other c d a b hd hb (sym e))

bound-other : (k a b c d : ℕ) → 0 < b → 0 < d → a * d ≡ c * b → k * b ≤ a → k * d ≤ c
bound-other k a b c d hb hd e h =
    le_of_mul-le-mul_right {k = b} (rw (mul_right_comm k d b, ← e) (mul-le-mul_right d h)) hb

-- of equal fractions both are k or more, or none
bound-equal : (k a b c d : ℕ) → 0 < b → 0 < d → a * d ≡ c * b → leb (k * b) a ≡ leb (k * d) c
bound-equal k a b c d hb hd e =
    leb_agree (k * b) a (k * d) c (bound-other k a b c d hb hd e) (bound-other k c d a b hd hb (sym e))

-- two tests that agree find the same
find-agree : (p q : ℕ → Bool) → ((n : ℕ) → p n ≡ q n) → (ns : List ℕ) → find p ns ≡ find q ns
find-agree p q h [] = refl
find-agree p q h (n ∷ ns) = rw (h n, find-agree p q h ns) refl

places-equal : (a b c d : ℕ) → 0 < b → 0 < d → a * d ≡ c * b → least_places a b ≡ least_places c d
places-equal a b c d hb hd e =
    find-agree _ _ (λ s. whole-equal (a * 10 ^ s) b (c * 10 ^ s) d hb hd (multiple-equal a b c d (10 ^ s) e)) (range_with_len 0 31)

with_places-equal : (n : Bool) (a b c d : ℕ) (o : Option ℕ) → 0 < b → 0 < d → a * d ≡ c * b → with_places n a b o ≡ with_places n c d o
with_places-equal n a b c d None hb hd e = refl
with_places-equal n a b c d (Some s) hb hd e =
    rw (quotient-equal (a * 10 ^ s) b (c * 10 ^ s) d hb hd (multiple-equal a b c d (10 ^ s) e)) refl

-- equal fractions with one sign are one numeral
pub fraction_numeral-equal : (n : Bool) (a b c d : ℕ) → 0 < b → 0 < d → a * d ≡ c * b → fraction_numeral n a b ≡ fraction_numeral n c d
unfolding fraction_numeral
fraction_numeral-equal n a b c d hb hd e =
    rw (bound-equal (10 ^ 30) a b c d hb hd e, places-equal a b c d hb hd e, with_places-equal n a b c d (least_places c d) hb hd e) refl
