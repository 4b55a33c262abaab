-- What the reader makes of a line.
use Rattle.std.specs.Prelude.{ℕ, List, [], ◌++◌, length, Option, Some, None, Result}
use Rattle.sp_mps_words.specs.declared.faults.FaultKind.{FaultKind}
use Rattle.sp_mps_words.specs.declared.heads.Head.{Head}
use Rattle.sp_mps_words.specs.declared.heads.Head.TheVariants.{Name, Objsense, Rows, Columns, Rhs, Ranges, Bounds, Indicators, Endata}
use Rattle.sp_mps_words.specs.declared.line_kinds.LineKind.{LineKind}
use Rattle.sp_mps_words.specs.declared.line_kinds.LineKind.TheVariants.{Ignored, Section, Data}
use Rattle.sp_mps_words.specs.Heads.{head_of}
use Rattle.sp_mps_words.specs.Kinds.{row_kind_of, bound_kind_of, direction_of}
use Rattle.sp_mps_words.specs.Lines.{Line}
use Rattle.sp_mps_words.specs.Words.{Word, word_at}
use Rattle.sp_mps_sections.specs.Additions.{no_rows, with_row, no_columns, with_column_line, no_sides, with_sides, no_ranges, with_ranges, no_bounds, with_bounds, no_indicators, with_indicator}
use Rattle.sp_mps_sections.specs.Answers.{unless, or_else}
use Rattle.sp_mps_sections.specs.Fronts.{listed, first_of, last_of}
use Rattle.sp_mps_sections.specs.Order.{directions_at}
use Rattle.sp_mps_sections.specs.Sides.{set_name, sides_on, ranges_on}
use Rattle.sp_mps_sections.specs.Bounds.{set_on, bounds_on}
use Rattle.sp_mps_sections.specs.Indicators.{indicator_row}
use Rattle.sp_mps_sections.specs.declared.sides.SideList.{SideList}
use Rattle.sp_mps_sections.specs.declared.sides.RangeList.{RangeList}
use Rattle.sp_mps_sections.specs.declared.bounds.BoundList.{BoundList}
use Rattle.sp_mps.specs.Checks.{check_words}
use Rattle.sp_mps.specs.declared.reader.Reader.{Reader}

-- before the first line
abbrev pub start : Reader
start = record {
  heads = [];
  direction = None;
  rows = no_rows;
  columns = no_columns;
  sides = no_sides;
  ranges = no_ranges;
  bounds = no_bounds;
  indicators = no_indicators;
}

abbrev pub with_head : Option Head → ℕ → Word → Reader → Reader
with_head head count second s = record s {
  heads = s.heads ++ listed head;
  direction = or_else s.direction (first_of (directions_at head count second));
}

abbrev pub with_direction : Word → Reader → Reader
with_direction word s = record s { direction = or_else s.direction (direction_of word) }

abbrev pub put_sides : Reader → SideList → Reader
put_sides s list = record s { sides = list }

abbrev pub put_ranges : Reader → RangeList → Reader
put_ranges s list = record s { ranges = list }

abbrev pub put_bounds : Reader → BoundList → Reader
put_bounds s list = record s { bounds = list }

abbrev pub with_data : Option Head → ℕ → Word → Word → Word → Word → Word → Reader → Reader
with_data (Some Objsense) count a b c d e s = with_direction a s
with_data (Some Rows) count a b c d e s = record s { rows = with_row (row_kind_of a) b s.rows }
with_data (Some Columns) count a b c d e s = record s { columns = with_column_line s.rows count a b c d e s.columns }
with_data (Some Rhs) count a b c d e s =
    put_sides s (with_sides (set_name count a) (sides_on s.rows count a b c d e) s.sides)
with_data (Some Ranges) count a b c d e s =
    put_ranges s (with_ranges (set_name count a) (ranges_on s.rows count a b c d e) s.ranges)
with_data (Some Bounds) count a b c d e s =
    put_bounds s (with_bounds (set_on (bound_kind_of a) count b) (bounds_on s.columns.names (bound_kind_of a) count b
    c d) s.bounds)
with_data (Some Indicators) count a b c d e s =
    record s { indicators = with_indicator b (indicator_row s.rows s.columns.names b c d) s.indicators }
with_data (Some Name) count a b c d e s = s
with_data (Some Endata) count a b c d e s = s
with_data None count a b c d e s = s

abbrev pub with_words : LineKind → List Word → Reader → Reader
with_words Ignored words s = s
with_words Section words s = with_head (head_of (word_at words 0)) (length words) (word_at words 1) s
with_words Data words s =
    with_data (last_of s.heads) (length words) (word_at words 0) (word_at words 1) (word_at words 2) (word_at words 3)
    (word_at words 4) s

-- the next line
unfoldable pub step : Reader → Line → Result Reader FaultKind
step s l = unless (check_words s l.kind l.words) (with_words l.kind l.words s)
