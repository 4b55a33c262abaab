-- The texts that numbers with decimal places are printed as.
use Rattle.std.specs.Prelude.{◌≡◌, ◌≢◌, ℕ, ◌-◌, ◌*◌, ◌/◌, ◌%◌, ◌^◌, IsTrue, Bool, ◌==◌, if◌then◌else◌, List, [], ◌∷◌, ◌++◌, length, slice_index, replicate, codes, ℤ, unsigned_abs}
use Rattle.std.specs.List.{list_all, list_any}
use Rattle.std.specs.Char.{is_ascii_digit}
use Rattle.std.specs.Int.{is_negative}
use Rattle.std.specs.Fmt.{decimal, sign_text}
use Rattle.sp_decimal.specs.Grammar.{some_digits, has_minus, is_point, unsigned, whole_part, fraction_part, top, bottom}

-- no text is longer: a minus, the thirty-nine digits of a number of 128 bits, and a point
abbrev pub longest_text : ℕ
longest_text = 41

-- the digit 0
abbrev pub is_zero : ℕ → Bool
is_zero b = b == 48

-- the digits up to the last that isn't 0
abbrev pub without_zeros : List ℕ → List ℕ
without_zeros [] = []
without_zeros (d ∷ digits) = if list_all is_zero (d ∷ digits) then [] else d ∷ without_zeros digits

-- the number with zeros in front of it, so that it fills so many places
unfoldable pub filled : ℕ → ℕ → List ℕ
filled places n = replicate (places - length (decimal n)) 48 ++ decimal n

-- a point and the digits behind it, or nothing where there are none
abbrev pub with_point : List ℕ → List ℕ
with_point [] = []
with_point (d ∷ digits) = 46 ∷ d ∷ digits

-- the text of n / 10^s: the whole part, and what is left as digits behind a point
unfoldable pub printed_size : ℕ → ℕ → List ℕ
printed_size n s = decimal (n / 10 ^ s) ++ with_point (without_zeros (filled s (n % 10 ^ s)))

-- the text of z / 10^s
unfoldable pub printed : ℤ → ℕ → List ℕ
printed z s = sign_text (is_negative z) ++ printed_size (unsigned_abs z) s

-- the digits before the point of a text with a sign or without
abbrev pub whole_of : List ℕ → List ℕ
whole_of text = whole_part (unsigned text)

-- the digits behind that point
abbrev pub behind_of : List ℕ → List ℕ
behind_of text = fraction_part (unsigned text)

-- the one form in which a value is printed: digits, the first of them 0 only where it is alone; behind a point, if there is one, digits, the last
-- of them not 0; and no sign but a minus, which doesn't stand before 0
pub record IsNormalForm (text : List ℕ) : Type 0 where
  pub whole : IsTrue (some_digits (whole_of text))
  pub first : slice_index (whole_of text) 0 ≡ 48 → length (whole_of text) ≡ 1
  pub behind : IsTrue (list_all is_ascii_digit (behind_of text))
  pub last : slice_index (behind_of text) (length (behind_of text) - 1) ≢ 48
  pub point : IsTrue (list_any is_point (unsigned text)) → behind_of text ≢ []
  pub no_plus : slice_index text 0 ≢ 43
  pub no_minus_zero : text ≢ codes "-0"

-- by the grammar the text is the number z / 10^s, with a minus where that is negative
pub record HasValue (text : List ℕ) (z : ℤ) (s : ℕ) : Type 0 where
  pub sign : has_minus text ≡ is_negative z
  pub value : top (unsigned text) * 10 ^ s ≡ unsigned_abs z * bottom (unsigned text)

-- by the grammar the two texts are one number with one sign
pub record HaveOneValue (a b : List ℕ) : Type 0 where
  pub sign : has_minus a ≡ has_minus b
  pub value : top (unsigned a) * bottom (unsigned b) ≡ top (unsigned b) * bottom (unsigned a)
