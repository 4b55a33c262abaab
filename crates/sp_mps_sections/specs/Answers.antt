-- How the answer of a call that takes a line stands for what is wanted: a fault, or else a new state.
use Rattle.std.specs.Prelude.{◌≡◌, Option, Some, None, Result, Ok, Err}
use Rattle.sp_mps_words.specs.declared.faults.FaultKind.{FaultKind}
use Rattle.sp_mps_sections.specs.declared.line_faults.LineFault.{LineFault}
use Rattle.sp_mps_sections.specs.declared.line_faults.LineFault.TheVariants.{Refused, NoMemory}

-- the state, where nothing is wrong
abbrev pub unless : {S : Type 0} → Option FaultKind → S → Result S FaultKind
unless None s = Ok s
unless (Some kind) s = Err kind

-- what a call that changes a state gives, against what is wanted; want of memory may come at any time
abbrev pub Gives : {T S : Type 0} → Result T LineFault → S → Result S FaultKind → Type 0
Gives (Ok x) new want = want ≡ Ok new
Gives (Err (Refused kind)) new want = want ≡ Err kind
Gives (Err NoMemory) new want = Unit {0}

-- what a test gives, against the fault that is wanted
abbrev pub GivesFault : Result (Unit {0}) FaultKind → Option FaultKind → Type 0
GivesFault (Ok x) want = want ≡ None
GivesFault (Err kind) want = want ≡ Some kind

abbrev pub or_else : {X : Type 0} → Option X → Option X → Option X
or_else None other = other
or_else (Some x) other = Some x
