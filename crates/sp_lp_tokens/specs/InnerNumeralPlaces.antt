-- The places of a numeral, and the one behind each next byte.
use Rattle.std.specs.Prelude.{ℕ, Bool, true, false, if◌then◌else◌, Option, Some, None}
use Rattle.std.specs.Char.{is_ascii_digit}
use Rattle.sp_decimal.specs.Grammar.{is_sign, is_point, is_exponent_letter}
use Rattle.sp_lp_tokens.specs.declared.numeral_places.Place.{Place}
use Rattle.sp_lp_tokens.specs.declared.numeral_places.Place.TheVariants.{Start, Whole, Point, Fraction, Letter, Sign, Power}

-- the place behind one more byte, or nothing where no numeral goes on with it
abbrev pub place_after : Place → ℕ → Option Place
place_after Start b = if is_ascii_digit b then Some Whole else (if is_point b then Some Point else None)
place_after Whole b = if is_ascii_digit b then Some Whole else (if is_point b then Some Fraction else (if is_exponent_letter b then Some Letter else None))
place_after Point b = if is_ascii_digit b then Some Fraction else None
place_after Fraction b = if is_ascii_digit b then Some Fraction else (if is_exponent_letter b then Some Letter else None)
place_after Letter b = if is_ascii_digit b then Some Power else (if is_sign b then Some Sign else None)
place_after Sign b = if is_ascii_digit b then Some Power else None
place_after Power b = if is_ascii_digit b then Some Power else None

-- what stands before the place is a numeral
abbrev pub ends_numeral : Place → Bool
ends_numeral Start = false
ends_numeral Whole = true
ends_numeral Point = false
ends_numeral Fraction = true
ends_numeral Letter = false
ends_numeral Sign = false
ends_numeral Power = true
