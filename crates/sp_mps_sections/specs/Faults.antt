-- The tests of a line, of which the first one that fails decides.
use Rattle.std.specs.Prelude.{Bool, if◌then◌else◌, List, Option, Some, None, Result, Ok, Err}
use Rattle.std.specs.Str.{bytes_eq}
use Rattle.sp_draft.specs.Names.{is_among}
use Rattle.sp_mps_words.specs.declared.faults.FaultKind.{FaultKind}
use Rattle.sp_mps_words.specs.declared.faults.FaultKind.TheVariants.{Syntax, UnknownName, Unsupported}
use Rattle.sp_mps_words.specs.Words.{Word, is_long}

-- the fault of a first test, or else that of a second one
abbrev pub or_then : Option FaultKind → Option FaultKind → Option FaultKind
or_then None next = next
or_then (Some kind) next = Some kind

abbrev pub fault_if : Bool → FaultKind → Option FaultKind
fault_if b kind = if b then Some kind else None

-- a word that has to stand for something
abbrev pub known_fault : {X : Type 0} → Option X → Option FaultKind
known_fault None = Some Syntax
known_fault (Some x) = None

-- a word that has to have a value
abbrev pub value_fault : {X : Type 0} → Result X FaultKind → Option FaultKind
value_fault (Ok value) = None
value_fault (Err kind) = Some kind

-- a name that is too long
abbrev pub name_fault : Word → Option FaultKind
name_fault name = fault_if (is_long name) Syntax

-- the name of a row or a column that has to be declared
abbrev pub declared_fault : List Word → Word → Option FaultKind
declared_fault names name = or_then (name_fault name) (if is_among names name then None else Some UnknownName)

-- a further set of a section whose first one is this
abbrev pub further_fault : Option Word → Word → Option FaultKind
further_fault None name = None
further_fault (Some first) name = if bytes_eq first name then None else Some Unsupported

-- the name of a set, which is the first one of its section
abbrev pub set_fault : Option Word → Word → Option FaultKind
set_fault first name = or_then (name_fault name) (further_fault first name)
