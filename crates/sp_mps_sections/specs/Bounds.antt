-- BOUNDS: a kind, the name of a set or none, a column, and a value where the kind has one.
use Rattle.std.specs.Prelude.{ℕ, Bool, false, ◌||◌, ◌==◌, if◌then◌else◌, List, [], ◌∷◌, length, Option, Some, None}
use Rattle.sp_decimal.specs.declared.numerals.Numeral.{Numeral}
use Rattle.sp_decimal.specs.declared.numerals.Numeral.TheVariants.{Exact}
use Rattle.sp_draft.specs.Names.{place_of}
use Rattle.sp_mps_words.specs.declared.faults.FaultKind.{FaultKind}
use Rattle.sp_mps_words.specs.declared.faults.FaultKind.TheVariants.{Syntax}
use Rattle.sp_mps_words.specs.declared.heads.Head.TheVariants.{Bounds}
use Rattle.sp_mps_words.specs.declared.kinds.BoundKind.{BoundKind}
use Rattle.sp_mps_words.specs.Kinds.{bound_kind_of, has_value}
use Rattle.sp_mps_words.specs.Values.{value_of}
use Rattle.sp_mps_words.specs.Lines.{Line}
use Rattle.sp_mps_words.specs.Words.{Word, word_at}
use Rattle.sp_mps_sections.specs.Fronts.{first_of, in_section}
use Rattle.sp_mps_sections.specs.Faults.{or_then, value_fault, declared_fault, set_fault}
use Rattle.sp_mps_sections.specs.Columns.{column_names}
use Rattle.sp_mps_sections.specs.Pairs.{zero, value_or_zero}
use Rattle.sp_mps_sections.specs.declared.bounds.ColumnBound.{ColumnBound}
use Rattle.sp_mps_sections.specs.declared.bounds.BoundList.{BoundList}

-- a line of so many fields names a set: four of them, or three where the kind has no value
abbrev pub names_set : BoundKind → ℕ → Bool
names_set kind count = (count == 4) || (if has_value kind then false else count == 3)

-- a line of so many fields names none
abbrev pub names_no_set : BoundKind → ℕ → Bool
names_no_set kind count = if has_value kind then count == 3 else count == 2

abbrev pub set_on : Option BoundKind → ℕ → Word → Word
set_on None count second = []
set_on (Some kind) count second = if names_set kind count then second else []

-- the set of BOUNDS: that of its first line
unfoldable pub bound_set : List Line → Option Word
bound_set lines =
    first_of (in_section Bounds
    (λ before words. set_on (bound_kind_of (word_at words 0)) (length words) (word_at words 1) ∷ []) lines)

-- the value of a bound, or zero where the kind has none
abbrev pub bound_value : BoundKind → Word → Numeral
bound_value kind word = if has_value kind then value_or_zero (value_of word) else Exact zero

-- a column's bound
abbrev pub column_bound : List Word → BoundKind → Word → Word → ColumnBound
column_bound columns kind column value =
    record { column = place_of columns column; kind = kind; value = bound_value kind value }

abbrev pub bounds_on : List Word → Option BoundKind → ℕ → Word → Word → Word → List ColumnBound
bounds_on columns None count b c d = []
bounds_on columns (Some kind) count b c d =
    (if names_set kind count then column_bound columns kind c d else column_bound columns kind b c) ∷ []

-- the bounds, in the order of the lines
unfoldable pub bounds : List Line → List ColumnBound
bounds lines =
    in_section Bounds (λ before words. bounds_on (column_names before) (bound_kind_of (word_at words 0))
    (length words) (word_at words 1) (word_at words 2) (word_at words 3)) lines

-- what the lines say of bounds
unfoldable pub bound_list : List Line → BoundList
bound_list lines = record { set = bound_set lines; bounds = bounds lines }

-- the value of a bound, which may be anything where the kind has none
abbrev pub bound_fault : BoundKind → Word → Option FaultKind
bound_fault kind word = if has_value kind then value_fault (value_of word) else None

-- a column, and a value where the kind has one
abbrev pub check_column_bound : List Word → BoundKind → Word → Word → Option FaultKind
check_column_bound columns kind column value = or_then (declared_fault columns column) (bound_fault kind value)

-- a set, a column, and a value where the kind has one
abbrev pub check_parts : List Word → Option Word → BoundKind → Word → Word → Word → Option FaultKind
check_parts columns set kind name column value =
    or_then (set_fault set name) (check_column_bound columns kind column value)

-- a data line of so many fields with a bound of this kind, of which these are the fields behind the kind
abbrev pub check_bound : List Word → Option Word → Option BoundKind → ℕ → Word → Word → Word → Option FaultKind
check_bound columns set None count b c d = Some Syntax
check_bound columns set (Some kind) count b c d =
    if names_set kind count then check_parts columns set kind b c d else (
    if names_no_set kind count then check_parts columns set kind [] b c else Some Syntax)
