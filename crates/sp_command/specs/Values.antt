-- The values in commands: whole numbers, gaps, bounds, coefficients and names.
use Rattle.std.specs.Prelude.{ℕ, ◌+◌, ◌-◌, ◌*◌, ◌^◌, Bool, not, ◌&&◌, ◌==◌, nat_lt, nat_le, if◌then◌else◌, length, fold, Option, Some, None, Result, Ok, Err, ℤ, pos, neg_ℤ, int_le, unsigned_abs}
use Rattle.std.specs.List.{list_all}
use Rattle.sp_decimal.specs.DecimalFraction.{DecimalFraction}
use Rattle.sp_decimal.specs.Numerals.{numeral}
use Rattle.sp_decimal.specs.Rounding.{floor_of, ceil_of}
use Rattle.sp_decimal.specs.declared.numerals.Numeral.{Numeral}
use Rattle.sp_decimal.specs.declared.numerals.Numeral.TheVariants.{Exact, Huge}
use Rattle.sp_decimal.specs.declared.numerals.NumeralFault.{NumeralFault}
use Rattle.sp_model.specs.declared.gaps.Gap.{Gap}
use Rattle.sp_model.specs.declared.gaps.Gap.TheVariants.{Unlimited, Of}
use Rattle.sp_command_words.specs.Keywords.{Word}

-- ---- whole numbers

-- the number that a digit is
abbrev pub digit_of : ℕ → ℕ
digit_of byte = byte - 48

abbrev pub is_digit : ℕ → Bool
is_digit byte = nat_le 48 byte && nat_le byte 57

-- the number that digits write
abbrev pub number_of : Word → ℕ
number_of word = fold (λ n byte. n * 10 + digit_of byte) 0 word

-- digits alone, at least one
abbrev pub is_whole : Word → Bool
is_whole word = not (length word == 0) && list_all is_digit word

-- a whole number within these limits
unfoldable pub whole : ℕ → ℕ → Word → Option ℕ
whole least most word =
    if not (is_whole word) then None else (
    if nat_lt (number_of word) least then None else (
    if nat_lt most (number_of word) then None else Some (number_of word)))

-- ---- gaps

-- from this number on a bound is none, and a gap is unlimited
abbrev pub endless : ℤ
endless = pos (10 ^ 20)

-- the decimal is at least 10^20; at most -10^20
abbrev pub is_far_up : DecimalFraction → Bool
is_far_up d = int_le endless (floor_of d)

abbrev pub is_far_down : DecimalFraction → Bool
is_far_down d = int_le (ceil_of d) (neg_ℤ endless)

-- a gap that isn't negative: unlimited from 10^20 on, else with at most twelve digits, at most twelve of them behind the point
abbrev pub gap_for : Numeral → Option Gap
gap_for (Exact d) =
    if not (int_le (pos 0) d.p) then None else (
    if is_far_up d then Some Unlimited else (
    if (int_le d.p (pos (10 ^ 12 - 1)) && nat_le d.s 12) then Some (Of (unsigned_abs d.p) d.s) else None))
gap_for (Huge negative) = if negative then None else Some Unlimited

abbrev pub gap_from : Result Numeral NumeralFault → Option Gap
gap_from (Ok n) = gap_for n
gap_from (Err fault) = None

unfoldable pub gap_of : Word → Option Gap
gap_of word = gap_from (numeral word)

-- ---- bounds of filters

-- the inner option is the bound, if there is one
abbrev pub lower_for : Numeral → Option (Option DecimalFraction)
lower_for (Exact d) = Some (if is_far_down d then None else Some d)
lower_for (Huge negative) = if negative then Some None else None

abbrev pub upper_for : Numeral → Option (Option DecimalFraction)
upper_for (Exact d) = Some (if is_far_up d then None else Some d)
upper_for (Huge negative) = if negative then None else Some None

abbrev pub lower_from : Result Numeral NumeralFault → Option (Option DecimalFraction)
lower_from (Ok n) = lower_for n
lower_from (Err fault) = None

abbrev pub upper_from : Result Numeral NumeralFault → Option (Option DecimalFraction)
upper_from (Ok n) = upper_for n
upper_from (Err fault) = None

-- a numeral: none from -10^20 down
unfoldable pub lower_of : Word → Option (Option DecimalFraction)
lower_of word = lower_from (numeral word)

-- a numeral: none from 10^20 up
unfoldable pub upper_of : Word → Option (Option DecimalFraction)
upper_of word = upper_from (numeral word)

-- ---- coefficients

abbrev pub exact_for : Numeral → Option DecimalFraction
exact_for (Exact d) = Some d
exact_for (Huge negative) = None

abbrev pub exact_from : Result Numeral NumeralFault → Option DecimalFraction
exact_from (Ok n) = exact_for n
exact_from (Err fault) = None

-- an exact numeral
unfoldable pub exact_of : Word → Option DecimalFraction
exact_of word = exact_from (numeral word)
