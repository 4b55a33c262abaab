-- The value of a numeral's parts is the value that the grammar gives the numeral.
use Rattle.std.proofs.Common.{◌≡◌, ℕ, ◌+◌, ◌*◌, ◌^◌, ◌<◌, ◌≤◌, ◌⊎◌, inl, inr, min, Bool, true, false, List, [], ◌∷◌, length, Result, Ok, Err, refl, sym, ap, ◌∙◌, cond, arith}
use Rattle.std.proofs.Math.Nat.{mul-lt-mul_of_pos_right, one-le-pow, pow-le-pow_right}
use Rattle.std.proofs.lemmas.Nat.{pow-add}
use Rattle.std.specs.List.{list_all}
use Rattle.std.specs.Char.{is_ascii_digit}
use Rattle.sp_decimal.specs.DecimalFraction.{DecimalFraction}
use Rattle.sp_decimal.specs.declared.numerals.Numeral.{Numeral}
use Rattle.sp_decimal.specs.declared.numerals.Numeral.TheVariants.{Exact, Huge}
use Rattle.sp_decimal.specs.declared.numerals.NumeralFault.{NumeralFault}
use Rattle.sp_decimal.specs.declared.numerals.NumeralFault.TheVariants.{NotNumeral}
use Rattle.sp_decimal.specs.declared.places.Place.{Place}
use Rattle.sp_decimal.specs.declared.places.Place.TheVariants.{Whole, Decimals}
use Rattle.sp_decimal.specs.Grammar.{has_minus, unsigned, is_infinity, is_plain_numeral, raised_by, lowered_by, value_of, top, bottom}
use Rattle.sp_decimal.specs.Numerals.{signed, fraction_numeral, numeral}
use Rattle.sp_decimal.specs.InnerSignificands.{number_of, IsSignificand, IsStripped}
use Rattle.sp_decimal.specs.InnerParts.{IsCut}
use Rattle.sp_decimal.specs.InnerPlaces.{IsPlace, answer_at}
use Rattle.sp_decimal.proofs.FractionAnswerLemmas.{Tells, abs-signed, numeral-from_told}
use Rattle.sp_decimal.proofs.StripLemmas.{number-lt}
use Rattle.sp_decimal.proofs.PlaceLemmas.{uncapped, answer-at_place}

-- an exponent raises or lowers
moved : (negative : Bool) (n : ℕ) → (cond negative 0 n ≡ 0) ⊎ (cond negative n 0 ≡ 0)
moved true n = inl refl
moved false n = inr refl

one-way : (e : List ℕ) → (raised_by e ≡ 0) ⊎ (lowered_by e ≡ 0)
unfolding raised_by lowered_by
one-way e = moved (has_minus e) (value_of (unsigned e))

-- digits and the zeros behind them
pub zeros-fit : (n size z : ℕ) → n < 10 ^ size → size + z ≤ 30 → n * 10 ^ z < 10 ^ 30
zeros-fit n size z fits le =
    let p : n * 10 ^ z < 10 ^ size * 10 ^ z = mul-lt-mul_of_pos_right fits (one-le-pow z 10 (omega arith)) in
    let q : 10 ^ (size + z) ≤ 10 ^ 30 = pow-le-pow_right {n = 10} (omega arith) le in
    omega (arith, p, q, pow-add 10 size z)

pub power-fits : (z : ℕ) → z ≤ 30 → 10 ^ z ≤ 10 ^ 30
power-fits z le = pow-le-pow_right {n = 10} (omega arith) le

pub whole-fits : (hs ts : List ℕ) (n m z : ℕ) → list_all is_ascii_digit hs ≡ true → list_all is_ascii_digit ts ≡ true → length hs + length ts + z ≤ 30 → n ≡ number_of hs ts → m ≡ 10 ^ z → n * m < 10 ^ 30
whole-fits hs ts n m z h t le e f = rw (e, f) (zeros-fit (number_of hs ts) (length hs + length ts) z (number-lt hs ts h t) le)

-- the digits that are stripped, at a place
pub digits-fit : (hs ts : List ℕ) (n : ℕ) → IsSignificand (number_of hs ts) (length hs + length ts) → length hs + length ts ≤ 30 → n ≡ number_of hs ts → n < 10 ^ 30
digits-fit hs ts n s le e = let m = power-fits (length hs + length ts) le in rw e (omega (arith, s.fits, m))

pub whole-small : (hs ts : List ℕ) (m up down z : ℕ) → IsSignificand (number_of hs ts) (length hs + length ts) → length hs + length ts + up ≤ 30 + down → up ≡ down + z → m ≡ number_of hs ts * 10 ^ z → m < 10 ^ 30
whole-small hs ts m up down z s le e f = rw f (zeros-fit (number_of hs ts) (length hs + length ts) z s.fits (omega arith))

-- the decimal that is made is the answer at the place
pub exact-whole : (negative : Bool) (n m z : ℕ) (d : DecimalFraction) → d ≡ record { p = signed negative m; s = 0 } → m ≡ n * 10 ^ z → Ok (Exact d) ≡ answer_at negative n (Whole z)
exact-whole negative n m z d e f = rw (e, f) refl

pub exact-decimals : (negative : Bool) (n m places : ℕ) (d : DecimalFraction) → d ≡ record { p = signed negative m; s = places } → m ≡ n → Ok (Exact d) ≡ answer_at negative n (Decimals places)
exact-decimals negative n m places d e f = rw (e, f) refl

-- no digit but 0
told-zero : (negative : Bool) (a b : ℕ) → 0 < b → a ≡ 0 → Tells negative a b (Ok (Exact (record { p = signed negative 0; s = 0 })))
told-zero negative a b hb e =
    let abs = abs-signed negative 0 in (
      omega arith,
      record {
        equal = rw (abs, e) (omega arith);
        sign = ap (signed negative) (sym abs);
        small = rw abs (omega arith);
        places = omega arith;
        fewest = λ s lt n. absurd (omega arith);
      },
    )

no_digits : (hs ts : List ℕ) → length hs + length ts ≡ 0 → number_of hs ts ≡ 0
no_digits [] [] e = omega arith
no_digits (x ∷ hs) ts e = absurd (omega arith)
no_digits [] (x ∷ ts) e = absurd (omega arith)

pub value-zero : (negative : Bool) (whole fraction head tail : List ℕ) (skipped up down : ℕ) (d : DecimalFraction) → IsStripped whole fraction head tail skipped → length head + length tail ≡ 0
    → d ≡ record { p = signed negative 0; s = 0 } → Ok (Exact d) ≡ fraction_numeral negative (number_of whole fraction * 10 ^ up) (10 ^ down)
value-zero negative whole fraction head tail skipped up down d s e same =
    let zero : number_of whole fraction * 10 ^ up ≡ 0 = rw (s.value, no_digits head tail e) (omega arith) in
    ap (λ v. Ok (Exact v)) same ∙ numeral-from_told negative _ (10 ^ down) _ (one-le-pow down 10 (omega arith)) (told-zero negative _ (10 ^ down) (one-le-pow down 10 (omega arith)) zero)

-- the digits, times the power of ten of the zeros behind them, times that of the exponent
shifted : (v n zeros up : ℕ) → v ≡ n * 10 ^ zeros → n * 10 ^ (zeros + up) ≡ v * 10 ^ up
shifted v n zeros up e = rw (e, pow-add 10 zeros up) (omega arith)

pub value-at : (negative : Bool) (whole fraction head tail e : List ℕ) (zeros up down cap : ℕ) (p : Place) → IsStripped whole fraction head tail zeros → 0 < length head + length tail
    → up ≡ min (raised_by e) cap → down ≡ min (lowered_by e) cap → length head + length tail + zeros + 31 ≤ cap → length fraction + 31 ≤ cap
    → IsPlace (length head + length tail) (zeros + up) (length fraction + down) p
    → answer_at negative (number_of head tail) p ≡ fraction_numeral negative (number_of whole fraction * 10 ^ raised_by e) (10 ^ (length fraction + lowered_by e))
value-at negative whole fraction head tail e zeros up down cap p s some raised lowered h k place =
    let at : IsPlace (length head + length tail) (zeros + min (raised_by e) cap) (length fraction + min (lowered_by e) cap) p = rw (← raised, ← lowered) place in
    answer-at_place negative (number_of head tail) (length head + length tail) (zeros + raised_by e) (length fraction + lowered_by e) p (s.significand some)
    (uncapped (length head + length tail) zeros (raised_by e) (length fraction) (lowered_by e) cap p h k (one-way e) at)
    ∙ ap (λ n. fraction_numeral negative n (10 ^ (length fraction + lowered_by e))) (shifted (number_of whole fraction) (number_of head tail) zeros (raised_by e) s.value)

-- the three ways in which a text is read
pub numeral-by : (t : List ℕ) (endless plain : Bool) → is_infinity (unsigned t) ≡ endless → is_plain_numeral (unsigned t) ≡ plain
    → numeral t ≡ cond endless (Ok (Huge (has_minus t))) (cond plain (fraction_numeral (has_minus t) (top (unsigned t)) (bottom (unsigned t))) (Err NotNumeral))
unfolding numeral
numeral-by t endless plain e h = rw (e, h) refl

pub numeral-endless : (t u : List ℕ) (negative endless : Bool) → negative ≡ has_minus t → u ≡ unsigned t → endless ≡ is_infinity u → endless ≡ true → Ok (Huge negative) ≡ numeral t
numeral-endless t u negative endless n s e h =
    let i : is_infinity (unsigned t) ≡ true = rw (← s) (sym e ∙ h) in
    ap (λ m. Ok (Huge m)) n ∙ sym (numeral-by t true (is_plain_numeral (unsigned t)) i refl)

pub numeral-none : (t u : List ℕ) (endless : Bool) → u ≡ unsigned t → endless ≡ is_infinity u → endless ≡ false → false ≡ is_plain_numeral u → Err NotNumeral ≡ numeral t
numeral-none t u endless s e h p =
    let i : is_infinity (unsigned t) ≡ false = rw (← s) (sym e ∙ h) in
    let k : is_plain_numeral (unsigned t) ≡ false = rw (← s) (sym p) in
    sym (numeral-by t false false i k)

top-by : (u w f e : List ℕ) → IsCut u w f e → top u ≡ number_of w f * 10 ^ raised_by e
unfolding top
top-by u w f e c = rw (c.before_point, c.behind_point, c.behind_letter) refl

bottom-by : (u w f e : List ℕ) → IsCut u w f e → bottom u ≡ 10 ^ (length f + lowered_by e)
unfolding bottom
bottom-by u w f e c = rw (c.behind_point, c.behind_letter) refl

pub numeral-cut : (t u w f e : List ℕ) (negative endless : Bool) (r : Result Numeral NumeralFault) → negative ≡ has_minus t → u ≡ unsigned t → endless ≡ is_infinity u → endless ≡ false → true ≡ is_plain_numeral u
    → IsCut u w f e → r ≡ fraction_numeral negative (number_of w f * 10 ^ raised_by e) (10 ^ (length f + lowered_by e)) → r ≡ numeral t
numeral-cut t u w f e negative endless r n s i h p c v =
    let none : is_infinity (unsigned t) ≡ false = rw (← s) (sym i ∙ h) in
    let plain : is_plain_numeral (unsigned t) ≡ true = rw (← s) (sym p) in
    v ∙ rw (← top-by u w f e c, ← bottom-by u w f e c, s, n) (sym (numeral-by t false true none plain))
