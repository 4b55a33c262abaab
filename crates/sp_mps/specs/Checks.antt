-- What a line is refused for, by the lines before it.
use Rattle.std.specs.Prelude.{ℕ, List, length, Option, Some, None}
use Rattle.sp_mps_words.specs.declared.faults.FaultKind.{FaultKind}
use Rattle.sp_mps_words.specs.declared.faults.FaultKind.TheVariants.{Syntax}
use Rattle.sp_mps_words.specs.declared.heads.Head.{Head}
use Rattle.sp_mps_words.specs.declared.heads.Head.TheVariants.{Name, Objsense, Rows, Columns, Rhs, Ranges, Bounds, Indicators, Endata}
use Rattle.sp_mps_words.specs.declared.line_kinds.LineKind.{LineKind}
use Rattle.sp_mps_words.specs.declared.line_kinds.LineKind.TheVariants.{Ignored, Section, Data}
use Rattle.sp_mps_words.specs.Heads.{head_of}
use Rattle.sp_mps_words.specs.Kinds.{bound_kind_of}
use Rattle.sp_mps_words.specs.Lines.{Line}
use Rattle.sp_mps_words.specs.Words.{Word, word_at}
use Rattle.sp_mps_sections.specs.Fronts.{last_of}
use Rattle.sp_mps_sections.specs.Order.{check_head, check_direction}
use Rattle.sp_mps_sections.specs.Rows.{check_row}
use Rattle.sp_mps_sections.specs.Columns.{check_column}
use Rattle.sp_mps_sections.specs.Sides.{check_rhs, check_ranges}
use Rattle.sp_mps_sections.specs.Bounds.{check_bound}
use Rattle.sp_mps_sections.specs.Indicators.{check_indicator}
use Rattle.sp_mps.specs.Facts.{facts}
use Rattle.sp_mps.specs.declared.reader.Reader.{Reader}

-- a data line of so many fields, of which these are the first ones, in its section; it belongs to NAME, or stands
-- before the first head, nowhere
abbrev pub check_data : Reader → Option Head → ℕ → Word → Word → Word → Word → Word → Option FaultKind
check_data before (Some Objsense) count a b c d e = check_direction before.direction count a
check_data before (Some Rows) count a b c d e = check_row before.rows count a b
check_data before (Some Columns) count a b c d e = check_column before.rows before.columns.is_open count a b c d e
check_data before (Some Rhs) count a b c d e = check_rhs before.rows before.sides.set count a b c d e
check_data before (Some Ranges) count a b c d e = check_ranges before.rows before.ranges.set count a b c d e
check_data before (Some Bounds) count a b c d e =
    check_bound before.columns.names before.bounds.set (bound_kind_of a) count b c d
check_data before (Some Indicators) count a b c d e =
    check_indicator before.rows before.columns.names before.indicators.names count a b c d
check_data before (Some Name) count a b c d e = Some Syntax
check_data before (Some Endata) count a b c d e = Some Syntax
check_data before None count a b c d e = Some Syntax

-- a line of this kind with these words, by what the lines before it say
abbrev pub check_words : Reader → LineKind → List Word → Option FaultKind
check_words before Ignored words = None
check_words before Section words = check_head before.heads (head_of (word_at words 0)) (length words) (word_at words 1)
check_words before Data words =
    check_data before (last_of before.heads) (length words) (word_at words 0) (word_at words 1) (word_at words 2)
    (word_at words 3) (word_at words 4)

-- the line behind these is refused for this, or passes
unfoldable pub check : List Line → Line → Option FaultKind
check before l = check_words (facts before) l.kind l.words
