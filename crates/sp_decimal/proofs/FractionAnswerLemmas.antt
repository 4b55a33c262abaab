-- What a fraction is read as, said without computing it, and that one answer alone fits.
use Rattle.std.proofs.Common.{◌≡◌, ◌≢◌, ℕ, zero, suc, ◌+◌, ◌*◌, ◌/◌, ◌%◌, ◌^◌, ◌<◌, ◌≤◌, Bool, true, false, cond, eqb, leb, ltb, Option, None, Some, Result, Ok, Err, ℤ, inl, inr, refl, sym, ap, ◌∙◌, arith}
use Rattle.std.proofs.lemmas.Nat.{div-add-mod'}
use Rattle.std.proofs.lemmas.Bool.{cases_lt}
use Rattle.std.proofs.lemmas.Bool.Decides.{nat_tests, Decides-eqb}
use Rattle.std.proofs.lemmas.Int.{ints}
use Rattle.std.proofs.Math.Nat.{le_of_mul-le-mul_right, eq_of_mul-eq-mul_right, mul-le-mul_left, mul-mod_left, pow-le-pow_right}
use Rattle.std.specs.List.{find, range_with_len}
use Rattle.std.specs.Int.RustNames.{unsigned_abs}
use Rattle.sp_decimal.specs.DecimalFraction.{DecimalFraction}
use Rattle.sp_decimal.specs.declared.numerals.Numeral.{Numeral}
use Rattle.sp_decimal.specs.declared.numerals.Numeral.TheVariants.{Exact, Huge}
use Rattle.sp_decimal.specs.declared.numerals.NumeralFault.{NumeralFault}
use Rattle.sp_decimal.specs.declared.numerals.NumeralFault.TheVariants.{NotNumeral, Wide}
use Rattle.sp_decimal.specs.Numerals.{signed, least_places, with_places, fraction_numeral, IsFraction}
use Rattle.sp_decimal.specs.Readings.{IsWritten, IsLarge}

-- the answer says what the fraction is
abbrev pub Tells : Bool → ℕ → ℕ → Result Numeral NumeralFault → Type 0
Tells negative top bottom (Ok (Huge n)) = (n ≡ negative) × IsLarge top bottom
Tells negative top bottom (Ok (Exact d)) = (top < 10 ^ 30 * bottom) × IsFraction negative top bottom d
Tells negative top bottom (Err Wide) = (top < 10 ^ 30 * bottom) × ((digits places : ℕ) → IsWritten top bottom digits places → ⊥)
Tells negative top bottom (Err NotNumeral) = ⊥

-- a test that fails at a number and at each later one below s
fails-from : (p : ℕ → Bool) (a k : ℕ) → p a ≡ false → (a + 1 ≤ k → p k ≡ false) → a ≤ k → p k ≡ false
fails-from p a k e h l = elim (cases_lt a k) [ inl lt ↦ h (omega arith) | inr ge ↦ let same : a ≡ k = omega arith in ap p (sym same) ∙ e ]

-- what a search through the numbers from a on has found
abbrev Found : (ℕ → Bool) → ℕ → ℕ → Option ℕ → Type 0
Found p a n None = (k : ℕ) → a ≤ k → k < a + n → p k ≡ false
Found p a n (Some s) = (s < a + n) × (p s ≡ true) × ((k : ℕ) → a ≤ k → k < s → p k ≡ false)

found-later : (p : ℕ → Bool) (a n : ℕ) (o : Option ℕ) → p a ≡ false → Found p (a + 1) n o → Found p a (suc n) o
found-later p a n None e h = λ k l u. fails-from p a k e (λ m. h k m (omega arith)) l
found-later p a n (Some s) e h = (omega arith, h.1, λ k l u. fails-from p a k e (λ m. h.2 k m u) l)

found-here : (p : ℕ → Bool) (a n : ℕ) (b : Bool) (o : Option ℕ) → p a ≡ b → Found p (a + 1) n o → Found p a (suc n) (cond b (Some a) o)
found-here p a n true o e h = (omega arith, e, λ k l u. absurd (omega arith))
found-here p a n false o e h = found-later p a n o e h

found : (p : ℕ → Bool) (a n : ℕ) → Found p a n (find p (range_with_len a n))
found p a zero = λ k l u. absurd (omega arith)
found p a (suc n) = found-here p a n (p a) (find p (range_with_len (a + 1) n)) refl (found p (a + 1) n)

pub abs-signed : (negative : Bool) (n : ℕ) → unsigned_abs (signed negative n) ≡ n
abs-signed true n = omega (arith, ints)
abs-signed false n = omega (arith, ints)

-- whether the fraction has no more than s places
abbrev Ends : ℕ → ℕ → ℕ → Bool
Ends a b s = eqb (a * 10 ^ s % b) 0

ends-from : (a b s n : ℕ) → n * b ≡ a * 10 ^ s → Ends a b s ≡ true
ends-from a b s n e = rw (← e, mul-mod_left n b) refl

quotient-from : (a b : ℕ) → eqb (a % b) 0 ≡ true → a / b * b ≡ a
quotient-from a b h = let z : a % b ≡ 0 = (Decides-eqb (a % b) 0).0 h in omega (arith, div-add-mod' a b)

no_number : (a b s n : ℕ) → Ends a b s ≡ false → n * b ≢ a * 10 ^ s
no_number a b s n h e = let t = ends-from a b s n e in cc

fraction-found : (negative : Bool) (a b s : ℕ) → Found (Ends a b) 0 31 (Some s) → a * 10 ^ s / b < 10 ^ 30 → IsFraction negative a b (record { p = signed negative (a * 10 ^ s / b); s = s })
fraction-found negative a b s h small =
    let abs = abs-signed negative (a * 10 ^ s / b) in record {
      equal = rw abs (quotient-from (a * 10 ^ s) b h.1);
      sign = ap (signed negative) (sym abs);
      small = rw abs small;
      places = omega (arith, h.0);
      fewest = λ t lt n. no_number a b t n (h.2 t (omega arith) lt);
    }

-- more places, more digits
digits-le : (a b s t q n : ℕ) → 0 < b → s ≤ t → q * b ≡ a * 10 ^ s → n * b ≡ a * 10 ^ t → q ≤ n
digits-le a b s t q n hb le eq en =
    let m : a * 10 ^ s ≤ a * 10 ^ t = mul-le-mul_left a (pow-le-pow_right {n = 10} (omega arith) le) in
    let h : q * b ≤ n * b = rw (eq, en) m in
    le_of_mul-le-mul_right {k = b} h hb

wide-found : (a b s : ℕ) → 0 < b → Found (Ends a b) 0 31 (Some s) → 10 ^ 30 ≤ a * 10 ^ s / b → (digits places : ℕ) → IsWritten a b digits places → ⊥
wide-found a b s hb h wide n t w =
    elim (cases_lt t s) [
      | inl lt ↦ no_number a b t n (h.2 t (omega arith) lt) w.equal
      | inr ge ↦ let le = digits-le a b s t (a * 10 ^ s / b) n hb ge (quotient-from (a * 10 ^ s) b h.1) w.equal in let small = w.small in omega arith
    ]

told-some : (negative : Bool) (a b s : ℕ) (small : Bool) → ltb (a * 10 ^ s / b) (10 ^ 30) ≡ small → 0 < b → a < 10 ^ 30 * b → Found (Ends a b) 0 31 (Some s)
    → Tells negative a b (cond small (Ok (Exact (record { p = signed negative (a * 10 ^ s / b); s = s }))) (Err Wide))
told-some negative a b s true e hb lt h = (lt, fraction-found negative a b s h (grind (arith, nat_tests)))
told-some negative a b s false e hb lt h = (lt, wide-found a b s hb h (grind (arith, nat_tests)))

told-places : (negative : Bool) (a b : ℕ) (o : Option ℕ) → 0 < b → a < 10 ^ 30 * b → Found (Ends a b) 0 31 o → Tells negative a b (with_places negative a b o)
told-places negative a b None hb lt h = (lt, λ n t w. no_number a b t n (h t (omega arith) (let le = w.short in omega arith)) w.equal)
told-places negative a b (Some s) hb lt h = told-some negative a b s (ltb (a * 10 ^ s / b) (10 ^ 30)) refl hb lt h

told-large : (negative : Bool) (a b : ℕ) (large : Bool) → leb (10 ^ 30 * b) a ≡ large → 0 < b → Tells negative a b (cond large (Ok (Huge negative)) (with_places negative a b (least_places a b)))
told-large negative a b true e hb = (refl, grind (arith, nat_tests))
told-large negative a b false e hb = told-places negative a b (least_places a b) hb (grind (arith, nat_tests)) (found (Ends a b) 0 31)

-- what a fraction is read as says what it is
pub told : (negative : Bool) (a b : ℕ) → 0 < b → Tells negative a b (fraction_numeral negative a b)
unfolding fraction_numeral
told negative a b hb = told-large negative a b (leb (10 ^ 30 * b) a) refl hb

-- a decimal of a fraction writes it
pub written-from_fraction : (negative : Bool) (a b : ℕ) (d : DecimalFraction) → IsFraction negative a b d → IsWritten a b (unsigned_abs d.p) d.s
written-from_fraction negative a b d f = record { equal = f.equal; small = f.small; short = f.places }

same-decimal : (d e : DecimalFraction) → d.p ≡ e.p → d.s ≡ e.s → d ≡ e
same-decimal d e h k =
    let make : ℤ → ℕ → DecimalFraction = λ p s. record { p = p; s = s } in
    ap (λ p. make p d.s) h ∙ ap (λ s. make e.p s) k

fewest-le : (negative : Bool) (a b : ℕ) (d e : DecimalFraction) → IsFraction negative a b d → IsFraction negative a b e → d.s ≤ e.s
fewest-le negative a b d e f g = elim (cases_lt e.s d.s) [ inl lt ↦ absurd (f.fewest e.s lt (unsigned_abs e.p) g.equal) | inr ge ↦ ge ]

same-fraction : (negative : Bool) (a b : ℕ) (d e : DecimalFraction) → 0 < b → IsFraction negative a b d → IsFraction negative a b e → d ≡ e
same-fraction negative a b d e hb f g =
    let l = fewest-le negative a b d e f g in
    let r = fewest-le negative a b e d g f in
    let places : d.s ≡ e.s = omega arith in
    let digits : unsigned_abs d.p ≡ unsigned_abs e.p = eq_of_mul-eq-mul_right b hb (unsigned_abs d.p) (unsigned_abs e.p) (f.equal ∙ ap (λ s. a * 10 ^ s) places ∙ sym g.equal) in
    let p : d.p ≡ e.p = f.sign ∙ ap (signed negative) digits ∙ sym g.sign in
    same-decimal d e p places

-- one answer alone says what a fraction is
pub told-unique : (negative : Bool) (a b : ℕ) (r q : Result Numeral NumeralFault) → 0 < b → Tells negative a b r → Tells negative a b q → r ≡ q
told-unique negative a b (Ok (Huge m)) (Ok (Huge n)) hb f g = ap (λ v. Ok (Huge v)) (f.0 ∙ sym g.0)
told-unique negative a b (Ok (Huge m)) (Ok (Exact e)) hb f g = absurd (omega arith)
told-unique negative a b (Ok (Huge m)) (Err Wide) hb f g = absurd (omega arith)
told-unique negative a b (Ok (Exact d)) (Ok (Huge n)) hb f g = absurd (omega arith)
told-unique negative a b (Ok (Exact d)) (Ok (Exact e)) hb f g = ap (λ v. Ok (Exact v)) (same-fraction negative a b d e hb f.1 g.1)
told-unique negative a b (Ok (Exact d)) (Err Wide) hb f g = absurd (g.1 (unsigned_abs d.p) d.s (written-from_fraction negative a b d f.1))
told-unique negative a b (Err Wide) (Ok (Huge n)) hb f g = absurd (omega arith)
told-unique negative a b (Err Wide) (Ok (Exact e)) hb f g = absurd (f.1 (unsigned_abs e.p) e.s (written-from_fraction negative a b e g.1))
told-unique negative a b (Err Wide) (Err Wide) hb f g = refl
told-unique negative a b (Err NotNumeral) q hb f g = absurd f
told-unique negative a b r (Err NotNumeral) hb f g = absurd g

-- so the answer that says what a fraction is is what it is read as
pub numeral-from_told : (negative : Bool) (a b : ℕ) (r : Result Numeral NumeralFault) → 0 < b → Tells negative a b r → r ≡ fraction_numeral negative a b
numeral-from_told negative a b r hb f = told-unique negative a b r (fraction_numeral negative a b) hb f (told negative a b hb)
