-- The texts that are numerals, and the fractions that they stand for.
use Rattle.std.specs.Prelude.{ℕ, ◌+◌, ◌-◌, ◌*◌, ◌^◌, Bool, false, not, ◌&&◌, ◌||◌, ◌==◌, nat_le, if◌then◌else◌, List, [], ◌∷◌, ◌++◌, length, fold, codes}
use Rattle.std.specs.List.{list_all, list_any, before_first, after_first}
use Rattle.std.specs.Char.{is_ascii_digit}
use Rattle.std.specs.Str.{str_eq_ignore_ascii_case}

-- the number that the digits stand for
abbrev pub value_of : List ℕ → ℕ
value_of digits = fold (λ value digit. 10 * value + (digit - 48)) 0 digits

-- digits, at least one
abbrev pub some_digits : List ℕ → Bool
some_digits text = nat_le 1 (length text) && list_all is_ascii_digit text

-- a plus or a minus
abbrev pub is_sign : ℕ → Bool
is_sign b = (b == 43) || (b == 45)

-- a minus stands first
abbrev pub has_minus : List ℕ → Bool
has_minus [] = false
has_minus (b ∷ rest) = b == 45

-- the text without the sign that it may begin with
abbrev pub unsigned : List ℕ → List ℕ
unsigned [] = []
unsigned (b ∷ rest) = if is_sign b then rest else b ∷ rest

-- a full stop
abbrev pub is_point : ℕ → Bool
is_point b = b == 46

-- an e in either case
abbrev pub is_exponent_letter : ℕ → Bool
is_exponent_letter b = (b == 69) || (b == 101)

-- what stands before the exponent's letter, or all
unfoldable pub mantissa : List ℕ → List ℕ
mantissa text = before_first is_exponent_letter text

-- what stands behind the exponent's letter, or nothing
unfoldable pub exponent : List ℕ → List ℕ
exponent text = after_first is_exponent_letter text

-- what stands before the full stop of a mantissa, or all
unfoldable pub whole_part : List ℕ → List ℕ
whole_part mantissa = before_first is_point mantissa

-- what stands behind the full stop of a mantissa, or nothing
unfoldable pub fraction_part : List ℕ → List ℕ
fraction_part mantissa = after_first is_point mantissa

-- digits; digits, a full stop and any number of digits; a full stop and digits
unfoldable pub is_mantissa : List ℕ → Bool
is_mantissa m = some_digits (whole_part m ++ fraction_part m)

-- a mantissa; or a mantissa, the exponent's letter, and digits with a sign or without
unfoldable pub is_plain_numeral : List ℕ → Bool
is_plain_numeral text = is_mantissa (mantissa text) && (not (list_any is_exponent_letter text) || some_digits (unsigned (exponent text)))

-- the words for a number without end, in any case
abbrev pub is_infinity : List ℕ → Bool
is_infinity text = str_eq_ignore_ascii_case text (codes "inf") || str_eq_ignore_ascii_case text (codes "infinity")

-- the digits of the exponent, as far as they raise the value
unfoldable pub raised_by : List ℕ → ℕ
raised_by exponent = if has_minus exponent then 0 else value_of (unsigned exponent)

-- the digits of the exponent, as far as they lower the value
unfoldable pub lowered_by : List ℕ → ℕ
lowered_by exponent = if has_minus exponent then value_of (unsigned exponent) else 0

-- the value of a numeral without sign is the fraction top / bottom: its whole part and its fraction part, times the power of ten
unfoldable pub top : List ℕ → ℕ
top text = (value_of (whole_part (mantissa text)) * 10 ^ length (fraction_part (mantissa text)) + value_of (fraction_part (mantissa text))) * 10 ^ raised_by (exponent text)

unfoldable pub bottom : List ℕ → ℕ
bottom text = 10 ^ (length (fraction_part (mantissa text)) + lowered_by (exponent text))
