-- What the word of a value stands for.
use Rattle.std.specs.Prelude.{ℕ, Bool, true, false, ◌&&◌, ◌==◌, if◌then◌else◌, Result, Ok, Err, pos}
use Rattle.std.specs.Ordering.{int_eq}
use Rattle.sp_decimal.specs.DecimalFraction.{DecimalFraction}
use Rattle.sp_decimal.specs.Numerals.{numeral}
use Rattle.sp_decimal.specs.declared.numerals.Numeral.{Numeral}
use Rattle.sp_decimal.specs.declared.numerals.Numeral.TheVariants.{Exact, Huge}
use Rattle.sp_decimal.specs.declared.numerals.NumeralFault.{NumeralFault}
use Rattle.sp_decimal.specs.declared.numerals.NumeralFault.TheVariants.{NotNumeral, Wide}
use Rattle.sp_mps_words.specs.declared.faults.FaultKind.{FaultKind}
use Rattle.sp_mps_words.specs.declared.faults.FaultKind.TheVariants.{Syntax, WideNumeral}
use Rattle.sp_mps_words.specs.Words.{Word}

abbrev pub value_from : Result Numeral NumeralFault → Result Numeral FaultKind
value_from (Ok value) = Ok value
value_from (Err Wide) = Err WideNumeral
value_from (Err NotNumeral) = Err Syntax

-- the value of a word that may be huge
unfoldable pub value_of : Word → Result Numeral FaultKind
value_of word = value_from (numeral word)

abbrev pub exact_from : Result Numeral NumeralFault → Result DecimalFraction FaultKind
exact_from (Ok (Exact value)) = Ok value
exact_from (Ok (Huge negative)) = Err WideNumeral
exact_from (Err Wide) = Err WideNumeral
exact_from (Err NotNumeral) = Err Syntax

-- the value of a word that may not be huge
unfoldable pub exact_of : Word → Result DecimalFraction FaultKind
exact_of word = exact_from (numeral word)

-- the value is the whole number
abbrev pub is_whole : ℕ → DecimalFraction → Bool
is_whole n value = int_eq value.p (pos n) && (value.s == 0)

abbrev pub flag_from : Result Numeral NumeralFault → Result Bool FaultKind
flag_from (Ok (Exact value)) = if is_whole 1 value then Ok true else (if is_whole 0 value then Ok false else Err Syntax)
flag_from (Ok (Huge negative)) = Err Syntax
flag_from (Err Wide) = Err WideNumeral
flag_from (Err NotNumeral) = Err Syntax

-- a word that stands for 0 or 1
unfoldable pub flag_of : Word → Result Bool FaultKind
flag_of word = flag_from (numeral word)
