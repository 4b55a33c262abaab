-- RHS and RANGES: the name of a set or none, and a row and a value, once or twice.
use Rattle.std.specs.Prelude.{ℕ, ◌==◌, if◌then◌else◌, List, [], ◌∷◌, length, Option, Some}
use Rattle.sp_mps_words.specs.declared.faults.FaultKind.{FaultKind}
use Rattle.sp_mps_words.specs.declared.faults.FaultKind.TheVariants.{Syntax}
use Rattle.sp_mps_words.specs.declared.heads.Head.TheVariants.{Rhs, Ranges}
use Rattle.sp_mps_words.specs.Lines.{Line}
use Rattle.sp_mps_words.specs.Words.{Word, word_at}
use Rattle.sp_mps_sections.specs.Fronts.{first_of, in_section}
use Rattle.sp_mps_sections.specs.Faults.{or_then, set_fault}
use Rattle.sp_mps_sections.specs.Pairs.{is_led, is_bare, check_values, row_values, check_sides, row_sides}
use Rattle.sp_mps_sections.specs.Rows.{row_list}
use Rattle.sp_mps_sections.specs.declared.pairs.RowValue.{RowValue}
use Rattle.sp_mps_sections.specs.declared.pairs.RowSide.{RowSide}
use Rattle.sp_mps_sections.specs.declared.rows.RowList.{RowList}
use Rattle.sp_mps_sections.specs.declared.sides.SideList.{SideList}
use Rattle.sp_mps_sections.specs.declared.sides.RangeList.{RangeList}

-- the name of the set on a line of so many fields: the first one, or the empty name
abbrev pub set_name : ℕ → Word → Word
set_name count first = if is_led count then first else []

-- the set of RHS: that of its first line
unfoldable pub side_set : List Line → Option Word
side_set lines = first_of (in_section Rhs (λ before words. set_name (length words) (word_at words 0) ∷ []) lines)

abbrev pub sides_on : RowList → ℕ → Word → Word → Word → Word → Word → List RowSide
sides_on rows count a b c d e =
    if is_led count then row_sides rows (count == 5) b c d e else row_sides rows (count == 4) a b c d

-- the right-hand sides, in the order of the lines
unfoldable pub sides : List Line → List RowSide
sides lines =
    in_section Rhs (λ before words. sides_on (row_list before) (length words) (word_at words 0) (word_at words 1)
    (word_at words 2) (word_at words 3) (word_at words 4)) lines

-- what the lines say of right-hand sides
unfoldable pub side_list : List Line → SideList
side_list lines = record { set = side_set lines; sides = sides lines }

-- a data line of RHS, of so many fields, of which these are the first ones
abbrev pub check_rhs : RowList → Option Word → ℕ → Word → Word → Word → Word → Word → Option FaultKind
check_rhs rows set count a b c d e =
    if is_led count then or_then (set_fault set a) (check_sides rows (count == 5) b c d e) else (
    if is_bare count then or_then (set_fault set []) (check_sides rows (count == 4) a b c d) else Some Syntax)

-- the set of RANGES: that of its first line
unfoldable pub range_set : List Line → Option Word
range_set lines = first_of (in_section Ranges (λ before words. set_name (length words) (word_at words 0) ∷ []) lines)

abbrev pub ranges_on : RowList → ℕ → Word → Word → Word → Word → Word → List RowValue
ranges_on rows count a b c d e =
    if is_led count then row_values rows (count == 5) b c d e else row_values rows (count == 4) a b c d

-- the ranges, in the order of the lines
unfoldable pub ranges : List Line → List RowValue
ranges lines =
    in_section Ranges (λ before words. ranges_on (row_list before) (length words) (word_at words 0) (word_at words 1)
    (word_at words 2) (word_at words 3) (word_at words 4)) lines

-- what the lines say of ranges
unfoldable pub range_list : List Line → RangeList
range_list lines = record { set = range_set lines; ranges = ranges lines }

-- a data line of RANGES, of so many fields, of which these are the first ones
abbrev pub check_ranges : RowList → Option Word → ℕ → Word → Word → Word → Word → Word → Option FaultKind
check_ranges rows set count a b c d e =
    if is_led count then or_then (set_fault set a) (check_values rows (count == 5) b c d e) else (
    if is_bare count then or_then (set_fault set []) (check_values rows (count == 4) a b c d) else Some Syntax)
