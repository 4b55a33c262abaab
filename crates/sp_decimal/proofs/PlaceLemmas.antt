-- The answer at a place says what the number is.
use Rattle.std.proofs.Common.{◌≡◌, ◌≢◌, ℕ, suc, ◌+◌, ◌-◌, ◌*◌, ◌%◌, ◌^◌, ◌<◌, ◌≤◌, ◌⊎◌, inl, inr, min, Bool, refl, sym, ap, ◌∙◌, arith}
use Rattle.std.proofs.Math.Nat.{pow-suc, mul-le-mul_right, mul-le-mul_left, mul-lt-mul_of_pos_right, lt_of_mul-lt-mul_right, eq_of_mul-eq-mul_right, one-le-pow, pow-le-pow_right}
use Rattle.std.proofs.lemmas.Nat.{pow-add}
use Rattle.std.proofs.lemmas.Bool.{cases_lt}
use Rattle.sp_decimal.specs.declared.places.Place.{Place}
use Rattle.sp_decimal.specs.declared.places.Place.TheVariants.{TooLarge, Whole, Decimals, TooFine}
use Rattle.sp_decimal.specs.Numerals.{signed, fraction_numeral, IsFraction}
use Rattle.sp_decimal.specs.Readings.{IsWritten, IsLarge}
use Rattle.sp_decimal.specs.InnerSignificands.{IsSignificand}
use Rattle.sp_decimal.specs.InnerPlaces.{IsPlace, answer_at}
use Rattle.sp_decimal.proofs.FractionAnswerLemmas.{Tells, abs-signed, numeral-from_told}
use Rattle.sp_decimal.proofs.StripLemmas.{power-parts}

-- what the caps leave open changes no place
pub uncapped : (size more raised fraction lowered cap : ℕ) (p : Place) → size + more + 31 ≤ cap → fraction + 31 ≤ cap → (raised ≡ 0) ⊎ (lowered ≡ 0)
    → IsPlace size (more + min raised cap) (fraction + min lowered cap) p → IsPlace size (more + raised) (fraction + lowered) p
uncapped size more raised fraction lowered cap TooLarge s f none h = elim none [ inl a ↦ omega arith | inr b ↦ omega arith ]
uncapped size more raised fraction lowered cap (Whole z) s f none h = elim none [ inl a ↦ (omega arith, omega arith) | inr b ↦ (omega arith, omega arith) ]
uncapped size more raised fraction lowered cap (Decimals d) s f none h =
    elim none [ inl a ↦ (omega arith, omega arith, h.2, h.3, h.4) | inr b ↦ (omega arith, omega arith, h.2, h.3, h.4) ]
uncapped size more raised fraction lowered cap TooFine s f none h =
    elim h.2 [
      | inl wide ↦ elim none [ inl a ↦ (omega arith, omega arith, inl wide) | inr b ↦ (omega arith, omega arith, inl wide) ]
      | inr fine ↦ elim none [ inl a ↦ (omega arith, omega arith, inr (omega arith)) | inr b ↦ (omega arith, omega arith, inr (omega arith)) ]
    ]

-- a number that doesn't end in 0 is no number of fewer places
no_fewer : (n m up down t : ℕ) → n % 10 ≢ 0 → up + t < down → m * 10 ^ down ≢ n * 10 ^ up * 10 ^ t
no_fewer n m up down t ne lt e =
    let k = down - (up + t + 1) in
    let p : 10 ^ down ≡ 10 ^ (up + t) * 10 ^ suc k = power-parts down (up + t) (suc k) (omega arith) in
    let q : 10 ^ suc k ≡ 10 ^ k * 10 = pow-suc 10 k in
    let r : 10 ^ (up + t) ≡ 10 ^ up * 10 ^ t = pow-add 10 up t in
    let left : m * 10 ^ down ≡ m * (10 ^ k * 10) * 10 ^ (up + t) = rw (p, q) (omega arith) in
    let right : n * 10 ^ up * 10 ^ t ≡ n * 10 ^ (up + t) = rw r (omega arith) in
    let same : m * (10 ^ k * 10) ≡ n = eq_of_mul-eq-mul_right (10 ^ (up + t)) (one-le-pow (up + t) 10 (omega arith)) (m * (10 ^ k * 10)) n (sym left ∙ e ∙ right) in
    ne (omega (arith, same))

large-at : (n size up down : ℕ) → 10 ^ size ≤ 10 * n → 30 + down < size + up → IsLarge (n * 10 ^ up) (10 ^ down)
large-at n size up down first h =
    let p : 10 ^ suc (30 + down) ≤ 10 ^ (size + up) = pow-le-pow_right {n = 10} (omega arith) (omega arith) in
    let q : 10 ^ suc (30 + down) ≡ 10 ^ (30 + down) * 10 = pow-suc 10 (30 + down) in
    let r : 10 ^ (30 + down) ≡ 10 ^ 30 * 10 ^ down = pow-add 10 30 down in
    let s : 10 ^ (size + up) ≡ 10 ^ size * 10 ^ up = pow-add 10 size up in
    let m : 10 ^ size * 10 ^ up ≤ 10 * n * 10 ^ up = mul-le-mul_right (10 ^ up) first in
    omega (arith, p, q, r, s, m)

small-at : (n size up down : ℕ) → n < 10 ^ size → size + up ≤ 30 + down → n * 10 ^ up < 10 ^ 30 * 10 ^ down
small-at n size up down fits h =
    let p : 10 ^ (size + up) ≤ 10 ^ (30 + down) = pow-le-pow_right {n = 10} (omega arith) h in
    let r : 10 ^ (30 + down) ≡ 10 ^ 30 * 10 ^ down = pow-add 10 30 down in
    let s : 10 ^ (size + up) ≡ 10 ^ size * 10 ^ up = pow-add 10 size up in
    let m : n * 10 ^ up < 10 ^ size * 10 ^ up = mul-lt-mul_of_pos_right fits (one-le-pow up 10 (omega arith)) in
    omega (arith, p, r, s, m)

whole-at : (negative : Bool) (n up down z : ℕ) → n * 10 ^ up < 10 ^ 30 * 10 ^ down → up ≡ down + z → IsFraction negative (n * 10 ^ up) (10 ^ down) (record { p = signed negative (n * 10 ^ z); s = 0 })
whole-at negative n up down z lt e =
    let abs = abs-signed negative (n * 10 ^ z) in
    let p : 10 ^ up ≡ 10 ^ down * 10 ^ z = power-parts up down z e in
    let same : n * 10 ^ z * 10 ^ down ≡ n * 10 ^ up = rw p (omega arith) in record {
      equal = rw abs (omega (arith, same));
      sign = ap (signed negative) (sym abs);
      small = rw abs (lt_of_mul-lt-mul_right (10 ^ down) (let l : n * 10 ^ z * 10 ^ down < 10 ^ 30 * 10 ^ down = omega (arith, same, lt) in l));
      places = omega arith;
      fewest = λ t l. absurd (omega arith);
    }

decimals-at : (negative : Bool) (n size up down d : ℕ) → IsSignificand n size → size ≤ 30 → down ≡ up + d → d ≤ 30 → IsFraction negative (n * 10 ^ up) (10 ^ down) (record { p = signed negative n; s = d })
decimals-at negative n size up down d s le e few =
    let abs = abs-signed negative n in
    let p : 10 ^ down ≡ 10 ^ up * 10 ^ d = power-parts down up d e in
    let m : 10 ^ size ≤ 10 ^ 30 = pow-le-pow_right {n = 10} (omega arith) le in record {
      equal = rw (abs, p) (omega arith);
      sign = ap (signed negative) (sym abs);
      small = rw abs (omega (arith, s.fits, m));
      places = few;
      fewest = λ t l k. no_fewer n k up down t s.last (omega arith);
    }

rw-parts : (n up t a b : ℕ) → 10 ^ (up + t) ≡ 10 ^ up * 10 ^ t → 10 ^ (up + t) ≡ b * a → n * 10 ^ up * 10 ^ t ≡ n * a * b
rw-parts n up t a b e f = let g : n * (10 ^ up * 10 ^ t) ≡ n * (b * a) = ap (λ k. n * k) (sym e ∙ f) in omega (arith, g)

-- more digits than thirty are needed, or more places
wide-digits : (n size up down m t : ℕ) → IsSignificand n size → 30 < size → down ≤ up + t → m * 10 ^ down ≡ n * 10 ^ up * 10 ^ t → 10 ^ 30 ≤ m
wide-digits n size up down m t s more le e =
    let k = up + t - down in
    let p : 10 ^ (up + t) ≡ 10 ^ down * 10 ^ k = power-parts (up + t) down k (omega arith) in
    let right : n * 10 ^ up * 10 ^ t ≡ n * 10 ^ k * 10 ^ down = rw-parts n up t (10 ^ k) (10 ^ down) (pow-add 10 up t) p in
    let same : m ≡ n * 10 ^ k = eq_of_mul-eq-mul_right (10 ^ down) (one-le-pow down 10 (omega arith)) m (n * 10 ^ k) (e ∙ right) in
    let one : 1 ≤ 10 ^ k = one-le-pow k 10 (omega arith) in
    let le' : n * 1 ≤ n * 10 ^ k = mul-le-mul_left n one in
    let big : 10 ^ 31 ≤ 10 ^ size = pow-le-pow_right {n = 10} (omega arith) more in
    omega (arith, same, le', big, s.first)

wide-at : (n size up down : ℕ) → IsSignificand n size → up < down → (30 < size) ⊎ (up + 30 < down) → (m t : ℕ) → IsWritten (n * 10 ^ up) (10 ^ down) m t → ⊥
wide-at n size up down s lt why m t w =
    elim (cases_lt (up + t) down) [
      | inl fewer ↦ no_fewer n m up down t s.last fewer w.equal
      | inr more ↦ elim why [
        | inl wide ↦ let big = wide-digits n size up down m t s wide more w.equal in let small = w.small in omega arith
        | inr fine ↦ let short = w.short in omega arith
      ]
    ]

-- the answer at the place says what the fraction is
told-place : (negative : Bool) (n size up down : ℕ) (p : Place) → IsSignificand n size → IsPlace size up down p → Tells negative (n * 10 ^ up) (10 ^ down) (answer_at negative n p)
told-place negative n size up down TooLarge s h = (refl, large-at n size up down s.first h)
told-place negative n size up down (Whole z) s h = let lt = small-at n size up down s.fits h.0 in (lt, whole-at negative n up down z lt h.1)
told-place negative n size up down (Decimals d) s h = (small-at n size up down s.fits h.0, decimals-at negative n size up down d s h.4 h.1 h.3)
told-place negative n size up down TooFine s h = (small-at n size up down s.fits h.0, wide-at n size up down s h.1 h.2)

pub answer-at_place : (negative : Bool) (n size up down : ℕ) (p : Place) → IsSignificand n size → IsPlace size up down p → answer_at negative n p ≡ fraction_numeral negative (n * 10 ^ up) (10 ^ down)
answer-at_place negative n size up down p s h = numeral-from_told negative (n * 10 ^ up) (10 ^ down) (answer_at negative n p) (one-le-pow down 10 (omega arith)) (told-place negative n size up down p s h)
