-- The printed text is in the form that has no zero too many.
use Rattle.std.proofs.Common.{◌≡◌, ◌≢◌, ℕ, ◌-◌, ◌^◌, ◌<◌, Bool, true, false, List, [], ◌∷◌, ◌++◌, length, get_or, drop, ℤ, unsigned_abs, refl, sym, ap, ◌∙◌, arith, append-nil}
use Rattle.std.specs.List.{list_all, list_any}
use Rattle.std.specs.Char.{is_ascii_digit}
use Rattle.std.specs.Int.{is_negative}
use Rattle.std.specs.Fmt.{sign_text}
use Rattle.std.proofs.lemmas.Int.{ints}
use Rattle.sp_decimal.specs.Grammar.{is_point, unsigned, whole_part, fraction_part}
use Rattle.sp_decimal.specs.Printing.{printed, printed_size, IsNormalForm}
use Rattle.sp_decimal.proofs.PlainTextLemmas.{AreDigits, plain, whole_part-plain, fraction_part-plain, some_digits-whole, unsigned-plain, no_point}
use Rattle.sp_decimal.proofs.PointPlaceLemmas.{and_left, digit-least}
use Rattle.sp_decimal.proofs.PrintedValueLemmas.{IsParted, parted}

-- the record's fields, for the text without its sign
normal_from : (text u w f : List ℕ) → AreDigits w f → unsigned text ≡ u → whole_part u ≡ w → fraction_part u ≡ f → (get_or w 0 0 ≡ 48 → length w ≡ 1) → get_or f (length f - 1) 0 ≢ 48
    → (list_any is_point u ≡ true → f ≢ []) → get_or text 0 0 ≢ 43 → text ≢ 45 ∷ 48 ∷ [] → IsNormalForm text
normal_from text u w f d unsign whole behind first last point plus minus = record {
  whole = rw (unsign, whole) (some_digits-whole w f d);
  first = rw (unsign, whole) first;
  behind = rw (unsign, behind) d.behind;
  last = rw (unsign, behind) last;
  point = rw (unsign, behind) point;
  no_plus = plus;
  no_minus_zero = minus;
}

-- a point has digits behind it
point_behind : (w f : List ℕ) → AreDigits w f → list_any is_point (plain w f) ≡ true → f ≢ []
point_behind w [] d e = let none = no_point w d.whole in let same = rw (append-nil w) at e in absurd (cc)
point_behind w (x ∷ f) d e = λ n. absurd (cc)

first_byte : (negative : Bool) (w f : List ℕ) → AreDigits w f → get_or (sign_text negative ++ plain w f) 0 0 ≢ 43
first_byte true w f d e = absurd (omega arith)
first_byte false [] f d e = absurd (omega (arith, d.some))
first_byte false (x ∷ w) f d e = let digit = and_left (is_ascii_digit x) (list_all is_ascii_digit w) d.whole in absurd (omega (arith, e, digit-least x digit))

-- a minus before a 0 alone belongs to no negative number
no_minus_zero : (negative : Bool) (n s : ℕ) (w f : List ℕ) → IsParted n s w f → (negative ≡ true → 0 < n) → sign_text negative ++ plain w f ≢ 45 ∷ 48 ∷ []
no_minus_zero true n s w f p some e =
    let text : plain w f ≡ 48 ∷ [] = ap (drop 1) e in
    let zero : AreDigits (48 ∷ []) [] = record { some = omega arith; whole = refl; behind = refl } in
    let whole : w ≡ 48 ∷ [] = sym (whole_part-plain w f p.digits) ∙ ap whole_part text ∙ whole_part-plain (48 ∷ []) [] zero in
    let behind : f ≡ [] = sym (fraction_part-plain w f p.digits) ∙ ap fraction_part text ∙ fraction_part-plain (48 ∷ []) [] zero in
    let value = rw (whole, behind) at p.value in
    absurd (omega (arith, value, some refl))
no_minus_zero false n s [] f p some e = absurd (omega (arith, p.digits.some))
no_minus_zero false n s (x ∷ w) f p some e = let digit = and_left (is_ascii_digit x) (list_all is_ascii_digit w) p.digits.whole in absurd (omega (arith, ap (λ (t : List ℕ). get_or t 0 0) e, digit-least x digit))

normal_parted : (negative : Bool) (n s : ℕ) (w f : List ℕ) → IsParted n s w f → (negative ≡ true → 0 < n) → IsNormalForm (sign_text negative ++ plain w f)
normal_parted negative n s w f p some =
    normal_from (sign_text negative ++ plain w f) (plain w f) w f p.digits (unsigned-plain negative w f p.digits) (whole_part-plain w f p.digits) (fraction_part-plain w f p.digits) p.first p.last
    (point_behind w f p.digits) (first_byte negative w f p.digits) (no_minus_zero negative n s w f p some)

negative_some : (z : ℤ) → is_negative z ≡ true → 0 < unsigned_abs z
negative_some z h = grind (arith, ints)

pub printed-normal : (z : ℤ) (s : ℕ) → unsigned_abs z < 10 ^ 64 → IsNormalForm (printed z s)
unfolding printed printed_size
printed-normal z s small = normal_parted (is_negative z) (unsigned_abs z) s _ _ (parted (unsigned_abs z) s small) (negative_some z)
