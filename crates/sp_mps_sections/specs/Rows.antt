-- ROWS: a kind and a name on each line. The first row of kind N is the objective.
use Rattle.std.specs.Prelude.{ℕ, Bool, true, false, not, ◌==◌, if◌then◌else◌, List, [], ◌∷◌, length, Option, Some, None, slice_index_or}
use Rattle.sp_draft.specs.Names.{is_among}
use Rattle.sp_mps_words.specs.declared.faults.FaultKind.{FaultKind}
use Rattle.sp_mps_words.specs.declared.faults.FaultKind.TheVariants.{Syntax, DuplicateName}
use Rattle.sp_mps_words.specs.declared.heads.Head.TheVariants.{Rows}
use Rattle.sp_mps_words.specs.declared.kinds.RowKind.{RowKind}
use Rattle.sp_mps_words.specs.declared.kinds.RowKind.TheVariants.{Free, Less, Greater, Equal}
use Rattle.sp_mps_words.specs.Kinds.{row_kind_of}
use Rattle.sp_mps_words.specs.Lines.{Line}
use Rattle.sp_mps_words.specs.Words.{Word, word_at}
use Rattle.sp_mps_sections.specs.Fronts.{listed, first_of, in_section}
use Rattle.sp_mps_sections.specs.Faults.{or_then, fault_if, known_fault, name_fault}
use Rattle.sp_mps_sections.specs.declared.rows.RowList.{RowList}

-- the names of the rows, in declared order
unfoldable pub row_names : List Line → List Word
row_names lines = in_section Rows (λ before words. word_at words 1 ∷ []) lines

-- their kinds
unfoldable pub row_kinds : List Line → List RowKind
row_kinds lines = in_section Rows (λ before words. listed (row_kind_of (word_at words 0))) lines

abbrev pub is_free : Option RowKind → Bool
is_free (Some Free) = true
is_free (Some Less) = false
is_free (Some Greater) = false
is_free (Some Equal) = false
is_free None = false

-- the place of a row of this kind with so many rows before it, where it asks nothing
abbrev pub free_place : Option RowKind → ℕ → List ℕ
free_place kind place = if is_free kind then place ∷ [] else []

-- the place of the objective: the first row of kind N
unfoldable pub objective_row : List Line → Option ℕ
objective_row lines =
    first_of (in_section Rows (λ before words. free_place (row_kind_of (word_at words 0)) (length (row_names before)))
    lines)

-- what the lines say of rows
unfoldable pub row_list : List Line → RowList
row_list lines = record { names = row_names lines; kinds = row_kinds lines; objective = objective_row lines }

-- the row at the place asks nothing: its kind is N
abbrev pub is_free_at : List RowKind → ℕ → Bool
is_free_at kinds place = is_free (Some (slice_index_or kinds place Free))

-- a data line with these rows before it: two fields, a kind, and a name that no row has
abbrev pub check_row : RowList → ℕ → Word → Word → Option FaultKind
check_row rows count kind name =
    or_then (fault_if (not (count == 2)) Syntax) (
    or_then (known_fault (row_kind_of kind)) (
    or_then (name_fault name) (
    fault_if (is_among rows.names name) DuplicateName)))
