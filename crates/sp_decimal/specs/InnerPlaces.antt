-- Where the digits of a number stand, said by counts alone, and how it is then answered.
use Rattle.std.specs.Prelude.{◌≡◌, ℕ, ◌+◌, ◌*◌, ◌^◌, ◌<◌, ◌≤◌, ◌⊎◌, Bool, Result, Ok, Err}
use Rattle.sp_decimal.specs.DecimalFraction.{most_digits, most_places}
use Rattle.sp_decimal.specs.declared.numerals.Numeral.{Numeral}
use Rattle.sp_decimal.specs.declared.numerals.Numeral.TheVariants.{Exact, Huge}
use Rattle.sp_decimal.specs.declared.numerals.NumeralFault.{NumeralFault}
use Rattle.sp_decimal.specs.declared.numerals.NumeralFault.TheVariants.{Wide}
use Rattle.sp_decimal.specs.declared.places.Place.{Place}
use Rattle.sp_decimal.specs.declared.places.Place.TheVariants.{TooLarge, Whole, Decimals, TooFine}
use Rattle.sp_decimal.specs.Numerals.{signed}

-- the place of a number of `size` digits, of which the first and the last aren't 0, times 10^(raised - lowered)
abbrev pub IsPlace : ℕ → ℕ → ℕ → Place → Type 0
IsPlace size raised lowered TooLarge = most_digits + lowered < size + raised
IsPlace size raised lowered (Whole zeros) = (size + raised ≤ most_digits + lowered) × (raised ≡ lowered + zeros)
IsPlace size raised lowered (Decimals places) = (size + raised ≤ most_digits + lowered) × (lowered ≡ raised + places) × (0 < places) × (places ≤ most_places) × (size ≤ most_digits)
IsPlace size raised lowered TooFine = (size + raised ≤ most_digits + lowered) × (raised < lowered) × ((most_digits < size) ⊎ (raised + most_places < lowered))

-- the answer at a place for the number of the digits
abbrev pub answer_at : Bool → ℕ → Place → Result Numeral NumeralFault
answer_at negative n TooLarge = Ok (Huge negative)
answer_at negative n (Whole zeros) = Ok (Exact (record { p = signed negative (n * 10 ^ zeros); s = 0 }))
answer_at negative n (Decimals places) = Ok (Exact (record { p = signed negative n; s = places }))
answer_at negative n TooFine = Err Wide
