-- The order of the sections, and the direction of the objective, which stands on a head's line or on a data line.
use Rattle.std.specs.Prelude.{ℕ, Bool, false, not, ◌||◌, ◌==◌, nat_lt, if◌then◌else◌, List, [], length, Option, Some, None}
use Rattle.std.specs.List.{list_any}
use Rattle.sp_mps_words.specs.declared.heads.Head.{Head}
use Rattle.sp_mps_words.specs.declared.heads.Head.TheVariants.{Name, Objsense, Rows, Columns, Rhs, Ranges, Bounds, Indicators, Endata}
use Rattle.sp_mps_words.specs.declared.faults.FaultKind.{FaultKind}
use Rattle.sp_mps_words.specs.declared.faults.FaultKind.TheVariants.{Syntax, Unsupported}
use Rattle.sp_mps_words.specs.declared.line_kinds.LineKind.{LineKind}
use Rattle.sp_mps_words.specs.declared.line_kinds.LineKind.TheVariants.{Ignored, Section, Data}
use Rattle.sp_mps_words.specs.Heads.{head_of}
use Rattle.sp_mps_words.specs.Kinds.{direction_of}
use Rattle.sp_mps_words.specs.Lines.{Line}
use Rattle.sp_mps_words.specs.Words.{Word, word_at}
use Rattle.sp_mps_sections.specs.Fronts.{each, listed, first_of, number_of, section_behind, is_section}
use Rattle.sp_mps_sections.specs.Faults.{or_then, fault_if, known_fault}

-- NAME and OBJSENSE in any order, then ROWS, then COLUMNS, then those of the last four in any order, then ENDATA
abbrev pub rank : Head → ℕ
rank Name = 0
rank Objsense = 0
rank Rows = 1
rank Columns = 2
rank Rhs = 3
rank Ranges = 3
rank Bounds = 3
rank Indicators = 3
rank Endata = 4

-- the head, or one of a later rank, is among the heads
abbrev pub is_late : List Head → Head → Bool
is_late heads head = list_any (λ h. (number_of h == number_of head) || nat_lt (rank head) (rank h)) heads

-- a head of the rank is among the heads
abbrev pub has_rank : List Head → ℕ → Bool
has_rank heads wanted = list_any (λ h. rank h == wanted) heads

-- a section that the head needs before it isn't among the heads: COLUMNS needs ROWS, and what follows needs COLUMNS
abbrev pub lacks : List Head → Head → Bool
lacks heads head =
    if rank head == 2 then not (has_rank heads 1) else (if nat_lt 2 (rank head) then not (has_rank heads 2) else false)

abbrev pub is_misplaced : List Head → Head → Bool
is_misplaced heads head = is_late heads head || lacks heads head

-- the line of a head has more fields than it may have: NAME's has any number, OBJSENSE's two, any other one
abbrev pub is_crowded : Head → ℕ → Bool
is_crowded Name count = false
is_crowded Objsense count = nat_lt 2 count
is_crowded Rows count = nat_lt 1 count
is_crowded Columns count = nat_lt 1 count
is_crowded Rhs count = nat_lt 1 count
is_crowded Ranges count = nat_lt 1 count
is_crowded Bounds count = nat_lt 1 count
is_crowded Indicators count = nat_lt 1 count
is_crowded Endata count = nat_lt 1 count

-- a second field behind OBJSENSE is a direction
abbrev pub sense_fault : Head → ℕ → Word → Option FaultKind
sense_fault Objsense count second = if count == 2 then known_fault (direction_of second) else None
sense_fault head count second = None

-- a section line with these heads before it
abbrev pub check_head : List Head → Option Head → ℕ → Word → Option FaultKind
check_head heads None count second = Some Unsupported
check_head heads (Some head) count second =
    or_then (fault_if (is_crowded head count) Syntax) (
    or_then (fault_if (is_misplaced heads head) Syntax) (
    sense_fault head count second))

-- a section line that gives the direction
abbrev pub directions_at : Option Head → ℕ → Word → List Bool
directions_at (Some Objsense) count second = if count == 2 then listed (direction_of second) else []
directions_at head count second = []

-- the direction that a line gives: behind OBJSENSE, or on a data line of that section
abbrev pub directions_in : Option Head → LineKind → List Word → List Bool
directions_in section Section words = directions_at (head_of (word_at words 0)) (length words) (word_at words 1)
directions_in section Data words = if is_section Objsense section then listed (direction_of (word_at words 0)) else []
directions_in section Ignored words = []

-- the direction that the lines give, if they do: whether the objective is to be maximised
unfoldable pub direction : List Line → Option Bool
direction lines = first_of (each (λ before l. directions_in (section_behind before) l.kind l.words) [] lines)

abbrev pub given_fault : Option Bool → Option FaultKind
given_fault None = None
given_fault (Some maximize) = Some Syntax

-- a data line of OBJSENSE: one field, a direction, and none was given before
abbrev pub check_direction : Option Bool → ℕ → Word → Option FaultKind
check_direction given count word =
    or_then (fault_if (not (count == 1)) Syntax) (
    or_then (known_fault (direction_of word)) (
    given_fault given))
