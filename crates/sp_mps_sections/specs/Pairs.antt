-- Pairs of a row and a value on one line, one or two of them.
use Rattle.std.specs.Prelude.{ℕ, Bool, false, ◌||◌, ◌==◌, if◌then◌else◌, List, [], ◌∷◌, Option, Some, None, Result, Ok, Err, pos}
use Rattle.sp_decimal.specs.DecimalFraction.{DecimalFraction}
use Rattle.sp_decimal.specs.declared.numerals.Numeral.{Numeral}
use Rattle.sp_decimal.specs.declared.numerals.Numeral.TheVariants.{Exact, Huge}
use Rattle.sp_draft.specs.Names.{place_of}
use Rattle.sp_mps_words.specs.declared.faults.FaultKind.{FaultKind}
use Rattle.sp_mps_words.specs.declared.faults.FaultKind.TheVariants.{WideNumeral}
use Rattle.sp_mps_words.specs.Values.{value_of, exact_of}
use Rattle.sp_mps_words.specs.Words.{Word}
use Rattle.sp_mps_sections.specs.Faults.{or_then, value_fault, declared_fault}
use Rattle.sp_mps_sections.specs.declared.pairs.RowValue.{RowValue}
use Rattle.sp_mps_sections.specs.declared.pairs.RowSide.{RowSide}
use Rattle.sp_mps_sections.specs.declared.rows.RowList.{RowList}

abbrev pub zero : DecimalFraction
zero = record { p = pos 0; s = 0 }

abbrev pub exact_or_zero : Result DecimalFraction FaultKind → DecimalFraction
exact_or_zero (Ok value) = value
exact_or_zero (Err kind) = zero

abbrev pub value_or_zero : Result Numeral FaultKind → Numeral
value_or_zero (Ok value) = value
value_or_zero (Err kind) = Exact zero

-- a line of so many fields has another field before its pairs
abbrev pub is_led : ℕ → Bool
is_led count = (count == 3) || (count == 5)

-- a line of so many fields has its pairs alone
abbrev pub is_bare : ℕ → Bool
is_bare count = (count == 2) || (count == 4)

-- a row and a value that may not be huge
abbrev pub check_value : RowList → Word → Word → Option FaultKind
check_value rows row value = or_then (declared_fault rows.names row) (value_fault (exact_of value))

abbrev pub row_value : RowList → Word → Word → RowValue
row_value rows row value = record { row = place_of rows.names row; value = exact_or_zero (exact_of value) }

-- one such pair, or two
abbrev pub check_values : RowList → Bool → Word → Word → Word → Word → Option FaultKind
check_values rows two a b c d = or_then (check_value rows a b) (if two then check_value rows c d else None)

abbrev pub row_values : RowList → Bool → Word → Word → Word → Word → List RowValue
row_values rows two a b c d = row_value rows a b ∷ (if two then row_value rows c d ∷ [] else [])

-- the row is the objective
abbrev pub is_objective : Option ℕ → ℕ → Bool
is_objective None row = false
is_objective (Some objective) row = objective == row

-- a value that may not be huge on the objective
abbrev pub side_value_fault : Bool → Result Numeral FaultKind → Option FaultKind
side_value_fault on_objective (Ok (Exact value)) = None
side_value_fault on_objective (Ok (Huge negative)) = if on_objective then Some WideNumeral else None
side_value_fault on_objective (Err kind) = Some kind

-- a row and a value that may be huge but on the objective
abbrev pub check_side : RowList → Word → Word → Option FaultKind
check_side rows row value =
    or_then (declared_fault rows.names row) (
    side_value_fault (is_objective rows.objective (place_of rows.names row)) (value_of value))

abbrev pub row_side : RowList → Word → Word → RowSide
row_side rows row value = record { row = place_of rows.names row; value = value_or_zero (value_of value) }

-- one such pair, or two
abbrev pub check_sides : RowList → Bool → Word → Word → Word → Word → Option FaultKind
check_sides rows two a b c d = or_then (check_side rows a b) (if two then check_side rows c d else None)

abbrev pub row_sides : RowList → Bool → Word → Word → Word → Word → List RowSide
row_sides rows two a b c d = row_side rows a b ∷ (if two then row_side rows c d ∷ [] else [])
