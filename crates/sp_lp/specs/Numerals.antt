-- Numerals that aren't huge.
use Rattle.std.specs.Prelude.{Bool, true, false}
use Rattle.sp_decimal.specs.declared.numerals.Numeral.{Numeral}
use Rattle.sp_decimal.specs.declared.numerals.Numeral.TheVariants.{Exact, Huge}

abbrev pub is_exact : Numeral → Bool
is_exact (Exact d) = true
is_exact (Huge negative) = false
