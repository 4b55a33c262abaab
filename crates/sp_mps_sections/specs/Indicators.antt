-- INDICATORS: IF, a row, a column, and the value of the column at which the row holds.
use Rattle.std.specs.Prelude.{ℕ, Bool, false, not, ◌==◌, List, [], ◌∷◌, Option, Result, Ok, Err}
use Rattle.sp_draft.specs.Names.{is_among, place_of, declared}
use Rattle.sp_mps_words.specs.declared.faults.FaultKind.{FaultKind}
use Rattle.sp_mps_words.specs.declared.faults.FaultKind.TheVariants.{Syntax, DuplicateName}
use Rattle.sp_mps_words.specs.declared.heads.Head.TheVariants.{Indicators}
use Rattle.sp_mps_words.specs.Marks.{is_if}
use Rattle.sp_mps_words.specs.Values.{flag_of}
use Rattle.sp_mps_words.specs.Lines.{Line}
use Rattle.sp_mps_words.specs.Words.{Word, word_at}
use Rattle.sp_mps_sections.specs.Fronts.{in_section}
use Rattle.sp_mps_sections.specs.Faults.{or_then, fault_if, value_fault, declared_fault}
use Rattle.sp_mps_sections.specs.Rows.{row_list, is_free_at}
use Rattle.sp_mps_sections.specs.Columns.{column_names}
use Rattle.sp_mps_sections.specs.declared.rows.RowList.{RowList}
use Rattle.sp_mps_sections.specs.declared.indicators.IndicatorRow.{IndicatorRow}
use Rattle.sp_mps_sections.specs.declared.indicators.IndicatorList.{IndicatorList}

-- the names of the rows that are indicators, in the order of the lines
unfoldable pub indicator_names : List Line → List Word
indicator_names lines = declared [] (in_section Indicators (λ before words. word_at words 1 ∷ []) lines)

abbrev pub flag_or_off : Result Bool FaultKind → Bool
flag_or_off (Ok on) = on
flag_or_off (Err kind) = false

abbrev pub indicator_row : RowList → List Word → Word → Word → Word → IndicatorRow
indicator_row rows columns row column value =
    record { row = place_of rows.names row; column = place_of columns column; on = flag_or_off (flag_of value) }

-- the indicators, in the order of the lines
unfoldable pub indicator_rows : List Line → List IndicatorRow
indicator_rows lines =
    in_section Indicators (λ before words. indicator_row (row_list before) (column_names before) (word_at words 1)
    (word_at words 2) (word_at words 3) ∷ []) lines

-- what the lines say of indicators
unfoldable pub indicator_list : List Line → IndicatorList
indicator_list lines = record { names = indicator_names lines; rows = indicator_rows lines }

-- a row that may be an indicator: it is declared, its kind isn't N, and it is none yet
abbrev pub row_fault : RowList → List Word → Word → Option FaultKind
row_fault rows indicators row =
    or_then (declared_fault rows.names row) (
    or_then (fault_if (is_free_at rows.kinds (place_of rows.names row)) Syntax) (
    fault_if (is_among indicators row) DuplicateName))

-- such a row, a column, and 0 or 1
abbrev pub indicator_fault : RowList → List Word → List Word → Word → Word → Word → Option FaultKind
indicator_fault rows columns indicators row column value =
    or_then (row_fault rows indicators row) (
    or_then (declared_fault columns column) (
    value_fault (flag_of value)))

-- a data line of so many fields, of which these are the first ones
abbrev pub check_indicator : RowList → List Word → List Word → ℕ → Word → Word → Word → Word → Option FaultKind
check_indicator rows columns indicators count a b c d =
    or_then (fault_if (not (count == 4)) Syntax) (
    or_then (fault_if (not (is_if a)) Syntax) (
    indicator_fault rows columns indicators b c d))
