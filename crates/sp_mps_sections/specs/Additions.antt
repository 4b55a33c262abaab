-- What is kept of rows, columns, right-hand sides, ranges, bounds and indicators: at first, and with one more line.
use Rattle.std.specs.Prelude.{ℕ, Bool, false, map, ◌==◌, if◌then◌else◌, List, [], ◌∷◌, ◌++◌, length, Option, Some, None}
use Rattle.sp_draft.specs.Names.{with_name, place_of}
use Rattle.sp_mps_words.specs.declared.kinds.RowKind.{RowKind}
use Rattle.sp_mps_words.specs.Marks.{is_marker, mark_of}
use Rattle.sp_mps_words.specs.Words.{Word}
use Rattle.sp_mps_sections.specs.Answers.{or_else}
use Rattle.sp_mps_sections.specs.Fronts.{listed, first_of}
use Rattle.sp_mps_sections.specs.Rows.{free_place}
use Rattle.sp_mps_sections.specs.Columns.{new_integer, term_of}
use Rattle.sp_mps_sections.specs.Pairs.{row_values}
use Rattle.sp_mps_sections.specs.declared.pairs.RowSide.{RowSide}
use Rattle.sp_mps_sections.specs.declared.pairs.RowValue.{RowValue}
use Rattle.sp_mps_sections.specs.declared.rows.RowList.{RowList}
use Rattle.sp_mps_sections.specs.declared.columns.ColumnList.{ColumnList}
use Rattle.sp_mps_sections.specs.declared.sides.SideList.{SideList}
use Rattle.sp_mps_sections.specs.declared.sides.RangeList.{RangeList}
use Rattle.sp_mps_sections.specs.declared.bounds.BoundList.{BoundList}
use Rattle.sp_mps_sections.specs.declared.bounds.ColumnBound.{ColumnBound}
use Rattle.sp_mps_sections.specs.declared.indicators.IndicatorList.{IndicatorList}
use Rattle.sp_mps_sections.specs.declared.indicators.IndicatorRow.{IndicatorRow}

abbrev pub no_rows : RowList
no_rows = record { names = []; kinds = []; objective = None }

abbrev pub with_row : Option RowKind → Word → RowList → RowList
with_row kind name rows = record {
  names = with_name rows.names name;
  kinds = rows.kinds ++ listed kind;
  objective = or_else rows.objective (first_of (free_place kind (length rows.names)));
}

abbrev pub no_columns : ColumnList
no_columns = record { names = []; is_open = false; integers = []; terms = [] }

abbrev pub with_mark : Option Bool → ColumnList → ColumnList
with_mark None columns = columns
with_mark (Some opens) columns = record columns { is_open = opens }

abbrev pub with_column : Word → List RowValue → ColumnList → ColumnList
with_column name pairs columns = record columns {
  names = with_name columns.names name;
  integers = columns.integers ++ new_integer columns.names columns.is_open name;
  terms = columns.terms ++ map (term_of (place_of columns.names name)) pairs;
}

abbrev pub with_column_line : RowList → ℕ → Word → Word → Word → Word → Word → ColumnList → ColumnList
with_column_line rows count a b c d e columns =
    if is_marker count b then with_mark (mark_of c) columns else
    with_column a (row_values rows (count == 5) b c d e) columns

abbrev pub no_sides : SideList
no_sides = record { set = None; sides = [] }

abbrev pub with_sides : Word → List RowSide → SideList → SideList
with_sides set new list = record { set = or_else list.set (Some set); sides = list.sides ++ new }

abbrev pub no_ranges : RangeList
no_ranges = record { set = None; ranges = [] }

abbrev pub with_ranges : Word → List RowValue → RangeList → RangeList
with_ranges set new list = record { set = or_else list.set (Some set); ranges = list.ranges ++ new }

abbrev pub no_bounds : BoundList
no_bounds = record { set = None; bounds = [] }

abbrev pub with_bounds : Word → List ColumnBound → BoundList → BoundList
with_bounds set new list = record { set = or_else list.set (Some set); bounds = list.bounds ++ new }

abbrev pub no_indicators : IndicatorList
no_indicators = record { names = []; rows = [] }

abbrev pub with_indicator : Word → IndicatorRow → IndicatorList → IndicatorList
with_indicator name new list = record { names = with_name list.names name; rows = list.rows ++ new ∷ [] }
