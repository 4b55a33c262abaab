-- COLUMNS: the coefficients of a column on each line, and markers between which columns are integer.
use Rattle.std.specs.Prelude.{ℕ, Bool, true, false, ◌==◌, if◌then◌else◌, List, [], ◌∷◌, length, map, fold, Option, Some, None}
use Rattle.sp_draft.specs.Names.{is_among, place_of, declared}
use Rattle.sp_mps_words.specs.declared.faults.FaultKind.{FaultKind}
use Rattle.sp_mps_words.specs.declared.faults.FaultKind.TheVariants.{Syntax}
use Rattle.sp_mps_words.specs.declared.heads.Head.TheVariants.{Columns}
use Rattle.sp_mps_words.specs.Marks.{is_marker, mark_of}
use Rattle.sp_mps_words.specs.Lines.{Line}
use Rattle.sp_mps_words.specs.Words.{Word, word_at}
use Rattle.sp_mps_sections.specs.Fronts.{listed, in_section}
use Rattle.sp_mps_sections.specs.Faults.{or_then, name_fault}
use Rattle.sp_mps_sections.specs.Pairs.{is_led, check_values, row_values}
use Rattle.sp_mps_sections.specs.Rows.{row_list}
use Rattle.sp_mps_sections.specs.declared.columns.ColumnList.{ColumnList}
use Rattle.sp_mps_sections.specs.declared.columns.Term.{Term}
use Rattle.sp_mps_sections.specs.declared.pairs.RowValue.{RowValue}
use Rattle.sp_mps_sections.specs.declared.rows.RowList.{RowList}

-- the name of the column on a line that is no marker
abbrev pub column_in : List Word → List Word
column_in words = if is_marker (length words) (word_at words 1) then [] else word_at words 0 ∷ []

-- the columns, in the order of their first lines
unfoldable pub column_names : List Line → List Word
column_names lines = declared [] (in_section Columns (λ before words. column_in words) lines)

-- what a marker line says: whether it opens
abbrev pub mark_in : List Word → List Bool
mark_in words = if is_marker (length words) (word_at words 1) then listed (mark_of (word_at words 2)) else []

abbrev pub last_mark : Bool → Bool → Bool
last_mark before mark = mark

-- the last marker of the lines opened
unfoldable pub is_open : List Line → Bool
is_open lines = fold last_mark false (in_section Columns (λ before words. mark_in words) lines)

-- of a column that these aren't among, whether it is integer
abbrev pub new_integer : List Word → Bool → Word → List Bool
new_integer columns is_integer column = if is_among columns column then [] else is_integer ∷ []

abbrev pub integer_in : List Word → Bool → List Word → List Bool
integer_in columns is_integer words =
    if is_marker (length words) (word_at words 1) then [] else new_integer columns is_integer (word_at words 0)

-- of each column whether it is integer: as the markers before its first line say
unfoldable pub integers : List Line → List Bool
integers lines = in_section Columns (λ before words. integer_in (column_names before) (is_open before) words) lines

abbrev pub term_of : ℕ → RowValue → Term
term_of column pair = record { row = pair.row; column = column; value = pair.value }

-- the terms of a line with these rows and columns before it
abbrev pub terms_in : RowList → List Word → List Word → List Term
terms_in rows columns words =
    if is_marker (length words) (word_at words 1) then [] else
    map (term_of (place_of columns (word_at words 0)))
    (row_values rows (length words == 5) (word_at words 1) (word_at words 2) (word_at words 3) (word_at words 4))

-- the terms, in the order of the lines
unfoldable pub terms : List Line → List Term
terms lines = in_section Columns (λ before words. terms_in (row_list before) (column_names before) words) lines

-- what the lines say of columns
unfoldable pub column_list : List Line → ColumnList
column_list lines =
    record { names = column_names lines; is_open = is_open lines; integers = integers lines; terms = terms lines }

-- a marker that opens what is open, or closes what isn't
abbrev pub mark_fault : Bool → Option Bool → Option FaultKind
mark_fault is_open None = Some Syntax
mark_fault true (Some true) = Some Syntax
mark_fault true (Some false) = None
mark_fault false (Some true) = None
mark_fault false (Some false) = Some Syntax

-- a marker line: a name, and a word that opens or closes
abbrev pub check_mark : Bool → Word → Option Bool → Option FaultKind
check_mark is_open name mark = or_then (name_fault name) (mark_fault is_open mark)

-- a line of coefficients: a column, and a row and a value, once or twice
abbrev pub check_terms : RowList → ℕ → Word → Word → Word → Word → Word → Option FaultKind
check_terms rows count a b c d e =
    if is_led count then or_then (name_fault a) (check_values rows (count == 5) b c d e) else Some Syntax

-- a data line of so many fields, of which these are the first ones
abbrev pub check_column : RowList → Bool → ℕ → Word → Word → Word → Word → Word → Option FaultKind
check_column rows is_open count a b c d e =
    if is_marker count b then check_mark is_open a (mark_of c) else check_terms rows count a b c d e
