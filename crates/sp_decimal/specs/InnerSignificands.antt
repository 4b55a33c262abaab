-- The digits of a numeral without the zeros around them.
use Rattle.std.specs.Prelude.{◌≡◌, ◌≢◌, ℕ, ◌+◌, ◌-◌, ◌*◌, ◌%◌, ◌^◌, ◌<◌, ◌≤◌, true, List, length}
use Rattle.std.specs.List.{list_all}
use Rattle.std.specs.Char.{is_ascii_digit}
use Rattle.sp_decimal.specs.Grammar.{value_of}

-- the number of the digits of both lists in a row
abbrev pub number_of : List ℕ → List ℕ → ℕ
number_of whole fraction = value_of whole * 10 ^ length fraction + value_of fraction

-- a number of so many digits, of which the first and the last aren't 0
pub record IsSignificand (n size : ℕ) : Type 0 where
  pub first : 10 ^ size ≤ 10 * n
  pub fits : n < 10 ^ size
  pub last : n % 10 ≢ 0

-- the digits without the zeros that stand first
pub record IsFrontTrimmed (digits kept : List ℕ) : Type 0 where
  pub all : list_all is_ascii_digit kept ≡ true
  pub value : value_of kept ≡ value_of digits
  pub first : 0 < length kept → 10 ^ length kept ≤ 10 * value_of kept
  pub shorter : length kept ≤ length digits

-- the digits without the zeros that stand last
pub record IsBackTrimmed (digits kept : List ℕ) : Type 0 where
  pub all : list_all is_ascii_digit kept ≡ true
  pub value : value_of digits ≡ value_of kept * 10 ^ (length digits - length kept)
  pub last : 0 < length kept → value_of kept % 10 ≢ 0
  pub shorter : length kept ≤ length digits

-- the digits without the zeros before the first other digit and those behind the last, which are counted
pub record IsStripped (whole fraction head tail : List ℕ) (zeros : ℕ) : Type 0 where
  pub value : number_of whole fraction ≡ number_of head tail * 10 ^ zeros
  pub head_digits : list_all is_ascii_digit head ≡ true
  pub tail_digits : list_all is_ascii_digit tail ≡ true
  pub significand : 0 < length head + length tail → IsSignificand (number_of head tail) (length head + length tail)
  pub few : zeros ≤ length whole + length fraction
