-- What a text may be read as, each answer said by itself.
use Rattle.std.specs.Prelude.{◌≡◌, ℕ, ◌*◌, ◌^◌, ◌<◌, ◌≤◌, ◌⊎◌, List, Result, Ok, Err, IsTrue}
use Rattle.sp_decimal.specs.DecimalFraction.{most_places, huge_from}
use Rattle.sp_decimal.specs.declared.numerals.Numeral.{Numeral}
use Rattle.sp_decimal.specs.declared.numerals.Numeral.TheVariants.{Exact, Huge}
use Rattle.sp_decimal.specs.declared.numerals.NumeralFault.{NumeralFault}
use Rattle.sp_decimal.specs.declared.numerals.NumeralFault.TheVariants.{NotNumeral, Wide}
use Rattle.sp_decimal.specs.Grammar.{has_minus, unsigned, is_infinity, is_plain_numeral, top, bottom}
use Rattle.sp_decimal.specs.Numerals.{IsFraction}

-- the fraction is the number of those digits with so many decimal places: at most thirty digits, and at most thirty places
pub record IsWritten (top bottom digits places : ℕ) : Type 0 where
  pub equal : digits * bottom ≡ top * 10 ^ places
  pub small : digits < huge_from
  pub short : places ≤ most_places

-- the fraction is 10^30 or more
abbrev pub IsLarge : ℕ → ℕ → Type 0
IsLarge top bottom = huge_from * bottom ≤ top

-- with its sign or without, the text is the word for a number without end
abbrev pub IsEndless : List ℕ → Type 0
IsEndless text = IsTrue (is_infinity (unsigned text))

-- with its sign or without, the text is a numeral
abbrev pub IsNumeral : List ℕ → Type 0
IsNumeral text = IsTrue (is_plain_numeral (unsigned text))

-- the text is a numeral of a magnitude below 10^30
pub record IsOrdinary (text : List ℕ) : Type 0 where
  pub plain : IsNumeral text
  pub below : top (unsigned text) < huge_from * bottom (unsigned text)

-- what each answer says of the text:
-- it is endless or a numeral of 10^30 or more, below 0 where a minus stands first;
-- it is a smaller numeral, and the decimal is its value with its sign in the fewest places;
-- it is a smaller numeral that can't be written with thirty digits and thirty places;
-- it is neither endless nor a numeral
abbrev pub IsReading : List ℕ → Result Numeral NumeralFault → Type 0
IsReading text (Ok (Huge negative)) = (negative ≡ has_minus text) × (IsEndless text ⊎ (IsNumeral text × IsLarge (top (unsigned text)) (bottom (unsigned text))))
IsReading text (Ok (Exact d)) = IsOrdinary text × IsFraction (has_minus text) (top (unsigned text)) (bottom (unsigned text)) d
IsReading text (Err Wide) = IsOrdinary text × ((digits places : ℕ) → ¬ (IsWritten (top (unsigned text)) (bottom (unsigned text)) digits places))
IsReading text (Err NotNumeral) = (¬ (IsEndless text)) × (¬ (IsNumeral text))
