-- What the lines say, gathered by row and by column.
use Rattle.std.specs.Prelude.{ℕ, Bool, false, List, [], map, fold, Option, Some, None, slice_index_or}
use Rattle.std.specs.List.{range_with_len}
use Rattle.sp_decimal.specs.DecimalFraction.{DecimalFraction}
use Rattle.sp_decimal.specs.declared.numerals.Numeral.{Numeral}
use Rattle.sp_draft.specs.Drafts.{WrittenTerm}
use Rattle.sp_draft.specs.declared.drafts.DraftVar.{DraftVar}
use Rattle.sp_draft.specs.declared.drafts.DraftRow.{DraftRow}
use Rattle.sp_draft.specs.declared.drafts.DraftIndicator.{DraftIndicator}
use Rattle.sp_mps_sections.specs.declared.indicators.IndicatorRow.{IndicatorRow}
use Rattle.sp_mps_words.specs.declared.kinds.RowKind.{RowKind}
use Rattle.sp_mps_words.specs.declared.kinds.RowKind.TheVariants.{Free}
use Rattle.sp_mps.specs.Drafts.{constant_of, sides_for, side_or_zero, row_terms, last_side, last_range, bounds_of, is_bounded, with_line, first_var}
use Rattle.sp_mps_sections.specs.declared.bounds.ColumnBound.{ColumnBound}
use Rattle.sp_mps_sections.specs.declared.columns.Term.{Term}
use Rattle.sp_mps_sections.specs.declared.pairs.RowSide.{RowSide}
use Rattle.sp_mps_sections.specs.declared.pairs.RowValue.{RowValue}

-- the terms of each row
unfoldable pub term_table : ℕ → List Term → List (List WrittenTerm)
term_table count terms = map (row_terms terms) (range_with_len 0 count)

-- the last right-hand side of each row, if it has one
unfoldable pub side_table : ℕ → List RowSide → List (Option Numeral)
side_table count sides = map (last_side sides) (range_with_len 0 count)

-- the last range of each row, if it has one
unfoldable pub range_table : ℕ → List RowValue → List (Option DecimalFraction)
range_table count ranges = map (last_range ranges) (range_with_len 0 count)

-- of each column whether it has bounds
unfoldable pub bounded_table : ℕ → List ColumnBound → List Bool
bounded_table count bounds = map (λ c. is_bounded (bounds_of bounds c)) (range_with_len 0 count)

-- each column with these bounds, from a first state
unfoldable pub var_table : ℕ → (ℕ → DraftVar) → List ColumnBound → List DraftVar
var_table count first bounds = map (λ c. fold with_line (first c) (bounds_of bounds c)) (range_with_len 0 count)

-- the column at the place before its bounds
abbrev pub first_at : List Bool → List Bool → ℕ → DraftVar
first_at integers bounded place = first_var (slice_index_or integers place false) (slice_index_or bounded place false)

-- the row at the place, of what is gathered by row
abbrev pub row_of : List RowKind → List (List WrittenTerm) → List (Option Numeral) → List (Option DecimalFraction) → ℕ
    → DraftRow
row_of kinds terms sides ranges row = record {
  terms = slice_index_or terms row [];
  sides = sides_for (slice_index_or kinds row Free) (side_or_zero (slice_index_or sides row None)) (slice_index_or
      ranges row None);
}

abbrev pub indicator_of : List RowKind → List (List WrittenTerm) → List (Option Numeral) → List (Option
    DecimalFraction) → IndicatorRow → DraftIndicator
indicator_of kinds terms sides ranges i =
    record { var = i.column; on = i.on; row = row_of kinds terms sides ranges i.row }

-- the terms and the constants of the objective, of what is gathered by row
abbrev pub cost_at : List (List WrittenTerm) → Option ℕ → List WrittenTerm
cost_at terms None = []
cost_at terms (Some row) = slice_index_or terms row []

abbrev pub constants_at : List (Option Numeral) → Option ℕ → List DecimalFraction
constants_at sides None = []
constants_at sides (Some row) = constant_of (slice_index_or sides row None)
