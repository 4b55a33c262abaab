-- What a numeral is read as.
use Rattle.std.specs.Prelude.{◌≡◌, ◌≢◌, ℕ, ◌+◌, ◌*◌, ◌/◌, ◌%◌, ◌^◌, ◌<◌, ◌≤◌, Bool, not, ◌==◌, nat_lt, nat_le, if◌then◌else◌, List, Option, None, Some, Result, Ok, Err, find, ℤ, pos, neg_ℤ, unsigned_abs}
use Rattle.std.specs.List.{range_with_len}
use Rattle.sp_decimal.specs.DecimalFraction.{DecimalFraction, opposite, most_places, huge_from}
use Rattle.sp_decimal.specs.declared.numerals.Numeral.{Numeral}
use Rattle.sp_decimal.specs.declared.numerals.Numeral.TheVariants.{Exact, Huge}
use Rattle.sp_decimal.specs.declared.numerals.NumeralFault.{NumeralFault}
use Rattle.sp_decimal.specs.declared.numerals.NumeralFault.TheVariants.{NotNumeral, Wide}
use Rattle.sp_decimal.specs.Grammar.{has_minus, unsigned, is_infinity, is_plain_numeral, top, bottom}

-- the number with the sign
abbrev pub signed : Bool → ℕ → ℤ
signed negative n = if negative then neg_ℤ (pos n) else pos n

-- the least number of decimal places with which the fraction can be written, at most thirty
abbrev pub least_places : ℕ → ℕ → Option ℕ
least_places top bottom = find (λ s. top * 10 ^ s % bottom == 0) (range_with_len 0 (most_places + 1))

-- the fraction with so many decimal places, where it then has at most thirty digits
abbrev pub with_places : Bool → ℕ → ℕ → Option ℕ → Result Numeral NumeralFault
with_places negative top bottom None = Err Wide
with_places negative top bottom (Some s) =
    if nat_lt (top * 10 ^ s / bottom) huge_from then Ok (Exact (record { p = signed negative (top * 10 ^ s / bottom); s = s })) else Err Wide

-- a fraction with its sign: huge from 10^30 on, else exact in the fewest places, else wide
unfoldable pub fraction_numeral : Bool → ℕ → ℕ → Result Numeral NumeralFault
fraction_numeral negative top bottom =
    if nat_le (huge_from * bottom) top then Ok (Huge negative) else with_places negative top bottom (least_places top bottom)

-- a text: an infinity with its sign is huge, a numeral with its sign is what its value is, anything else is no numeral
unfoldable pub numeral : List ℕ → Result Numeral NumeralFault
numeral text =
    if is_infinity (unsigned text) then Ok (Huge (has_minus text)) else (
    if is_plain_numeral (unsigned text) then fraction_numeral (has_minus text) (top (unsigned text)) (bottom (unsigned text)) else Err NotNumeral)

-- what a numeral stands for, with the other sign
abbrev pub opposite_numeral : Numeral → Numeral
opposite_numeral (Exact d) = Exact (opposite d)
opposite_numeral (Huge negative) = Huge (not negative)

-- the decimal is the fraction with its sign, in the fewest places
pub record IsFraction (negative : Bool) (top bottom : ℕ) (d : DecimalFraction) : Type 0 where
  pub equal : unsigned_abs d.p * bottom ≡ top * 10 ^ d.s
  pub sign : d.p ≡ signed negative (unsigned_abs d.p)
  pub small : unsigned_abs d.p < huge_from
  pub places : d.s ≤ most_places
  pub fewest : (s : ℕ) → s < d.s → (n : ℕ) → n * bottom ≢ top * 10 ^ s
