-- Digits, and digits behind a point, as the grammar reads them.
use Rattle.std.proofs.Common.{◌≡◌, ℕ, ◌+◌, ◌*◌, ◌^◌, ◌<◌, Bool, true, false, ◌==◌, List, [], ◌∷◌, ◌++◌, length, refl, ap, arith, length-append}
use Rattle.std.specs.List.{list_all, list_any}
use Rattle.std.specs.Char.{is_ascii_digit, to_ascii_lowercase}
use Rattle.std.specs.Fmt.{sign_text}
use Rattle.std.proofs.lemmas.Bool.Decides.{nat_tests}
use Rattle.std.proofs.lemmas.List.{append-nil}
use Rattle.std.proofs.lemmas.List.Folds.{list_any-append, list_all-append}
use Rattle.sp_decimal.specs.Grammar.{value_of, some_digits, has_minus, unsigned, is_point, is_exponent_letter, mantissa, exponent, whole_part, fraction_part, is_mantissa, is_plain_numeral, is_infinity, raised_by, lowered_by, top, bottom}
use Rattle.sp_decimal.specs.Numerals.{numeral, fraction_numeral}
use Rattle.sp_decimal.specs.Printing.{with_point}
use Rattle.sp_decimal.proofs.PointPlaceLemmas.{and_left, digit-not_letter, digit-not_point, digit-not_sign, digit-not_minus, none_in_digits, before_first-none, after_first-none, before_first-at, after_first-at}

-- the digits of a whole part, and those behind the point
pub record AreDigits (w f : List ℕ) : Type 0 where
  pub some : 0 < length w
  pub whole : list_all is_ascii_digit w ≡ true
  pub behind : list_all is_ascii_digit f ≡ true

abbrev pub plain : List ℕ → List ℕ → List ℕ
plain w f = w ++ with_point f

letters_behind : (f : List ℕ) → list_all is_ascii_digit f ≡ true → list_any is_exponent_letter (with_point f) ≡ false
letters_behind [] h = refl
letters_behind (d ∷ f) h = none_in_digits is_exponent_letter digit-not_letter (d ∷ f) h

no_letter : (w f : List ℕ) → AreDigits w f → list_any is_exponent_letter (plain w f) ≡ false
no_letter w f d =
    rw (list_any-append is_exponent_letter w (with_point f), none_in_digits is_exponent_letter digit-not_letter w d.whole) (letters_behind f d.behind)

pub mantissa-plain : (w f : List ℕ) → AreDigits w f → mantissa (plain w f) ≡ plain w f
unfolding mantissa
mantissa-plain w f d = before_first-none is_exponent_letter (plain w f) (no_letter w f d)

pub exponent-plain : (w f : List ℕ) → AreDigits w f → exponent (plain w f) ≡ []
unfolding exponent
exponent-plain w f d = after_first-none is_exponent_letter (plain w f) (no_letter w f d)

pub no_point : (w : List ℕ) → list_all is_ascii_digit w ≡ true → list_any is_point w ≡ false
no_point w h = none_in_digits is_point digit-not_point w h

pub whole_part-plain : (w f : List ℕ) → AreDigits w f → whole_part (plain w f) ≡ w
unfolding whole_part
whole_part-plain w [] d = rw append-nil (before_first-none is_point w (no_point w d.whole))
whole_part-plain w (x ∷ f) d = before_first-at is_point w 46 (x ∷ f) (no_point w d.whole) refl

pub fraction_part-plain : (w f : List ℕ) → AreDigits w f → fraction_part (plain w f) ≡ f
unfolding fraction_part
fraction_part-plain w [] d = rw append-nil (after_first-none is_point w (no_point w d.whole))
fraction_part-plain w (x ∷ f) d = after_first-at is_point w 46 (x ∷ f) (no_point w d.whole) refl

pub top-plain : (w f : List ℕ) → AreDigits w f → top (plain w f) ≡ value_of w * 10 ^ length f + value_of f
unfolding top raised_by
top-plain w f d = rw (mantissa-plain w f d, exponent-plain w f d, whole_part-plain w f d, fraction_part-plain w f d) (omega arith)

pub bottom-plain : (w f : List ℕ) → AreDigits w f → bottom (plain w f) ≡ 10 ^ length f
unfolding bottom lowered_by
bottom-plain w f d =
    let same : length f + 0 ≡ length f = omega arith in
    rw (mantissa-plain w f d, exponent-plain w f d, fraction_part-plain w f d) (ap (λ k. 10 ^ k) same)

-- one digit makes some
some_digits-are : (ds : List ℕ) → 0 < length ds → list_all is_ascii_digit ds ≡ true → some_digits ds ≡ true
some_digits-are ds some all = rw all (grind (arith, nat_tests))

pub some_digits-whole : (w f : List ℕ) → AreDigits w f → some_digits w ≡ true
some_digits-whole w f d = some_digits-are w d.some d.whole

is_mantissa-plain : (w f : List ℕ) → AreDigits w f → is_mantissa (plain w f) ≡ true
unfolding is_mantissa
is_mantissa-plain w f d =
    let all : list_all is_ascii_digit (w ++ f) ≡ true = rw (list_all-append is_ascii_digit w f, d.whole, d.behind) refl in
    rw (whole_part-plain w f d, fraction_part-plain w f d) (some_digits-are (w ++ f) (omega (arith, length-append w f, d.some)) all)

pub is_plain_numeral-plain : (w f : List ℕ) → AreDigits w f → is_plain_numeral (plain w f) ≡ true
unfolding is_plain_numeral
is_plain_numeral-plain w f d = rw (mantissa-plain w f d, is_mantissa-plain w f d, no_letter w f d) refl

-- a text that begins with a digit
digit-not_i : (d : ℕ) → is_ascii_digit d ≡ true → (to_ascii_lowercase d == 105) ≡ false
digit-not_i d h = grind (arith, nat_tests)

digit_begins : (d : ℕ) (rest : List ℕ) → is_ascii_digit d ≡ true → is_infinity (d ∷ rest) ≡ false
digit_begins d rest h = rw (digit-not_i d h) refl

pub is_infinity-plain : (w f : List ℕ) → AreDigits w f → is_infinity (plain w f) ≡ false
is_infinity-plain [] f d = absurd (omega (arith, d.some))
is_infinity-plain (x ∷ w) f d = digit_begins x (w ++ with_point f) (and_left (is_ascii_digit x) (list_all is_ascii_digit w) d.whole)

pub unsigned-plain : (negative : Bool) (w f : List ℕ) → AreDigits w f → unsigned (sign_text negative ++ plain w f) ≡ plain w f
unsigned-plain true w f d = refl
unsigned-plain false [] f d = absurd (omega (arith, d.some))
unsigned-plain false (x ∷ w) f d = rw (digit-not_sign x (and_left (is_ascii_digit x) (list_all is_ascii_digit w) d.whole)) refl

pub has_minus-plain : (negative : Bool) (w f : List ℕ) → AreDigits w f → has_minus (sign_text negative ++ plain w f) ≡ negative
has_minus-plain true w f d = refl
has_minus-plain false [] f d = absurd (omega (arith, d.some))
has_minus-plain false (x ∷ w) f d = digit-not_minus x (and_left (is_ascii_digit x) (list_all is_ascii_digit w) d.whole)

-- what a text with its sign is read as
pub numeral-plain : (negative : Bool) (w f : List ℕ) → AreDigits w f
    → numeral (sign_text negative ++ plain w f) ≡ fraction_numeral negative (value_of w * 10 ^ length f + value_of f) (10 ^ length f)
unfolding numeral
numeral-plain negative w f d =
    rw (unsigned-plain negative w f d, is_infinity-plain w f d, is_plain_numeral-plain w f d, has_minus-plain negative w f d, top-plain w f d, bottom-plain w f d) refl
