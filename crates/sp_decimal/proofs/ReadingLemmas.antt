-- A text is read as the one answer that says of it what is so.
use Rattle.std.proofs.Common.{◌≡◌, ◌≢◌, ℕ, ◌+◌, ◌<◌, ◌≤◌, ◌↔◌, inl, inr, Bool, true, false, ◌&&◌, ◌||◌, eqb, List, [], ◌∷◌, length, Result, Ok, Err, refl, sym, ap, ◌∙◌, subst, arith}
use Rattle.std.proofs.Math.Nat.{one-le-pow}
use Rattle.std.proofs.lemmas.Bool.Decides.{nat_tests, Decides-eqb}
use Rattle.std.specs.Char.{is_ascii_digit, to_ascii_lowercase}
use Rattle.sp_decimal.specs.DecimalFraction.{DecimalFraction}
use Rattle.sp_decimal.specs.declared.numerals.Numeral.{Numeral}
use Rattle.sp_decimal.specs.declared.numerals.Numeral.TheVariants.{Exact, Huge}
use Rattle.sp_decimal.specs.declared.numerals.NumeralFault.{NumeralFault}
use Rattle.sp_decimal.specs.declared.numerals.NumeralFault.TheVariants.{NotNumeral, Wide}
use Rattle.sp_decimal.specs.Grammar.{has_minus, unsigned, is_point, is_exponent_letter, is_infinity, is_plain_numeral, mantissa, exponent, fraction_part, top, bottom, lowered_by}
use Rattle.sp_decimal.specs.Numerals.{numeral, fraction_numeral}
use Rattle.sp_decimal.specs.Readings.{IsWritten, IsEndless, IsNumeral, IsOrdinary, IsReading}
use Rattle.sp_decimal.specs.InnerParts.{BeginsWith}
use Rattle.sp_decimal.proofs.FractionAnswerLemmas.{Tells, told, numeral-from_told}
use Rattle.sp_decimal.proofs.ReadLemmas.{numeral-by}
use Rattle.sp_decimal.proofs.CutLemmas.{cut-spoilt}

lower-high : (b : ℕ) → to_ascii_lowercase b ≡ 105 → 58 ≤ b
lower-high b h = grind (arith, nat_tests)

lower-other : (b : ℕ) → to_ascii_lowercase b ≡ 105 → (b ≢ 69) × (b ≢ 101)
lower-other b h = grind (arith, nat_tests)

-- the word for a number without end begins with no part of a numeral
lower-i : (b : ℕ) → to_ascii_lowercase b ≡ 105 → (is_ascii_digit b ≡ false) × (is_point b ≡ false) × (is_exponent_letter b ≡ false)
lower-i b h = let range : 58 ≤ b = lower-high b h in let other : (b ≢ 69) × (b ≢ 101) = lower-other b h in (grind (arith, nat_tests), grind (arith, nat_tests), grind (arith, nat_tests))

either-and : (x r s : Bool) → ((x && r) || (x && s)) ≡ true → x ≡ true
either-and true r s h = refl
either-and false r s h = h

begins-alone : (b : ℕ) (rest : List ℕ) → is_ascii_digit b ≡ false → is_point b ≡ false → BeginsWith (b ∷ rest) [] [] (b ∷ rest)
begins-alone b rest digit point = record { joined = inl (refl, refl, point); all_whole = refl; all_fraction = refl; ends = digit }

no-plain : (b : ℕ) (rest : List ℕ) → is_ascii_digit b ≡ false → is_point b ≡ false → is_exponent_letter b ≡ false → is_plain_numeral (b ∷ rest) ≡ false
unfolding is_plain_numeral
no-plain b rest digit point letter = rw (cut-spoilt (b ∷ rest) [] [] rest b (begins-alone b rest digit point) letter) refl

not_both : (u : List ℕ) → is_infinity u ≡ true → is_plain_numeral u ≡ true → ⊥
not_both [] h k = cc
not_both (b ∷ rest) h k =
    let i : eqb (to_ascii_lowercase b) 105 ≡ true = either-and _ _ _ h in
    let f = lower-i b ((Decides-eqb (to_ascii_lowercase b) 105).0 i) in
    let n = no-plain b rest f.0 f.1 f.2 in
    cc

-- a numeral is read as its fraction
plain-cases : (t : List ℕ) (endless : Bool) → is_infinity (unsigned t) ≡ endless → IsNumeral t → numeral t ≡ fraction_numeral (has_minus t) (top (unsigned t)) (bottom (unsigned t))
plain-cases t true e p = absurd (not_both (unsigned t) e p)
plain-cases t false e p = numeral-by t false true e p

numeral-plain : (t : List ℕ) → IsNumeral t → numeral t ≡ fraction_numeral (has_minus t) (top (unsigned t)) (bottom (unsigned t))
numeral-plain t p = plain-cases t (is_infinity (unsigned t)) refl p

bottom-pos : (u : List ℕ) → 0 < bottom u
unfolding bottom
bottom-pos u = one-le-pow (length (fraction_part (mantissa u)) + lowered_by (exponent u)) 10 (omega arith)

reading-from_told : (t : List ℕ) (r : Result Numeral NumeralFault) → IsNumeral t → Tells (has_minus t) (top (unsigned t)) (bottom (unsigned t)) r → IsReading t r
reading-from_told t (Ok (Huge n)) p h = (h.0, inr (p, h.1))
reading-from_told t (Ok (Exact d)) p h = (record { plain = p; below = h.0 }, h.1)
reading-from_told t (Err Wide) p h = (record { plain = p; below = h.0 }, h.1)
reading-from_told t (Err NotNumeral) p h = absurd h

-- what a text is read as says of it what is so
reading-by : (t : List ℕ) (endless plain : Bool) → is_infinity (unsigned t) ≡ endless → is_plain_numeral (unsigned t) ≡ plain → IsReading t (numeral t)
reading-by t true plain e p = rw (numeral-by t true plain e p) (refl, inl e)
reading-by t false true e p =
    rw (numeral-by t false true e p) (reading-from_told t _ p (told (has_minus t) (top (unsigned t)) (bottom (unsigned t)) (bottom-pos (unsigned t))))
reading-by t false false e p = rw (numeral-by t false false e p) (λ k. cc, λ k. cc)

pub reading : (t : List ℕ) → IsReading t (numeral t)
reading t = reading-by t (is_infinity (unsigned t)) (is_plain_numeral (unsigned t)) refl refl

-- and nothing else does
not_true : (b : Bool) → (b ≡ true → ⊥) → b ≡ false
not_true true h = absurd (h refl)
not_true false h = refl

numeral-told : (t : List ℕ) (r : Result Numeral NumeralFault) → IsNumeral t → Tells (has_minus t) (top (unsigned t)) (bottom (unsigned t)) r → numeral t ≡ r
numeral-told t r p h = numeral-plain t p ∙ sym (numeral-from_told (has_minus t) (top (unsigned t)) (bottom (unsigned t)) r (bottom-pos (unsigned t)) h)

numeral-word : (t : List ℕ) (n : Bool) → n ≡ has_minus t → IsEndless t → numeral t ≡ Ok (Huge n)
numeral-word t n e i = numeral-by t true (is_plain_numeral (unsigned t)) i refl ∙ ap (λ m. Ok (Huge m)) (sym e)

pub numeral-reading : (t : List ℕ) (r : Result Numeral NumeralFault) → IsReading t r → numeral t ≡ r
numeral-reading t (Ok (Huge n)) h = elim h.1 [
  | inl endless ↦ numeral-word t n h.0 endless
  | inr large ↦ numeral-told t (Ok (Huge n)) large.0 (h.0, large.1)
]
numeral-reading t (Ok (Exact d)) h = numeral-told t (Ok (Exact d)) h.0.plain (h.0.below, h.1)
numeral-reading t (Err Wide) h = numeral-told t (Err Wide) h.0.plain (h.0.below, h.1)
numeral-reading t (Err NotNumeral) h = numeral-by t false false (not_true _ h.0) (not_true _ h.1)

pub reading-iff : (t : List ℕ) (r : Result Numeral NumeralFault) → (numeral t ≡ r) ↔ IsReading t r
reading-iff t r = (λ e. subst (IsReading t) e (reading t), numeral-reading t r)

pub reading-unique : (t : List ℕ) (r q : Result Numeral NumeralFault) → IsReading t r → IsReading t q → r ≡ q
reading-unique t r q f g = sym (numeral-reading t r f) ∙ numeral-reading t q g

-- what can be written is read
written-by : (t : List ℕ) (digits places : ℕ) (r : Result Numeral NumeralFault) → numeral t ≡ r → IsReading t r → IsOrdinary t → IsWritten (top (unsigned t)) (bottom (unsigned t)) digits places
    → (d : DecimalFraction) × (numeral t ≡ Ok (Exact d))
written-by t digits places (Ok (Huge n)) e h o w = elim h.1 [
  | inl endless ↦ absurd (not_both (unsigned t) endless o.plain)
  | inr large ↦ let below = o.below in absurd (omega arith)
]
written-by t digits places (Ok (Exact d)) e h o w = (d, e)
written-by t digits places (Err Wide) e h o w = absurd (h.1 digits places w)
written-by t digits places (Err NotNumeral) e h o w = absurd (h.1 o.plain)

pub written : (t : List ℕ) (digits places : ℕ) → IsOrdinary t → IsWritten (top (unsigned t)) (bottom (unsigned t)) digits places → (d : DecimalFraction) × (numeral t ≡ Ok (Exact d))
written t digits places o w = written-by t digits places (numeral t) refl (reading t) o w
