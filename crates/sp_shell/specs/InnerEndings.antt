-- How the parts of a run end.
use Rattle.std.specs.Prelude.{◌≡◌, ℕ, ◌≤◌, List, Option, Result, Ok, Err, Bool}
use Rattle.sp_base.specs.Counts.{Rose}
use Rattle.sp_base.specs.Shelf.{Files}
use Rattle.sp_base.specs.Writing.{Sent, SinkState, state_of}
use Rattle.sp_base.specs.declared.sinks.Sink.{Ghosts as SinkOf}
use Rattle.sp_base.specs.declared.sinks.SinkEnd.{SinkEnd}
use Rattle.sp_base.specs.declared.sinks.SinkEnd.TheVariants as sunk
use Rattle.sp_base.specs.declared.statuses.Status.{Status}
use Rattle.sp_base.specs.declared.statuses.Status.TheVariants as status
use Rattle.sp_engine.specs.declared.journals.Entry.{Entry}
use Rattle.sp_engine.specs.Reading.{WantsInRead}
use Rattle.sp_engine.specs.Views.{Settings, begun}
use Rattle.sp_shell.specs.declared.runs.Ending.{Ending}
use Rattle.sp_shell.specs.Runs.{IsFileRun, Outcome, RunText, RunUnsaid, Saying, Unsaid}

-- the status of a run that was to end with `intended`, after its text was sent or not
abbrev pub status_after : {X : Type 0} → Result X SinkEnd → Status → Status
status_after (Ok done) intended = intended
status_after (Err sunk.Fault) intended = status.SinkFault
status_after (Err sunk.NoMemory) intended = status.NoMemory

-- The text was sent, or a front part of it, and the status says so. intended: the status of a run whose whole text was
-- sent.
pub record Answered (takes_memory : Bool) (intended s : Status) (old new : SinkState) (text : List ℕ) : Type 0 where
  pub sent : Result (Unit {0}) SinkEnd
  pub status_is : s ≡ status_after sent intended
  pub sends : Sent takes_memory sent old new text

-- the same over a sink of K
abbrev pub Answers : {S : Type 0} → SinkOf S → Status → Status → S → S → List ℕ → Type 0
Answers K intended s old new text = Answered K.takes_memory intended s (state_of K old) (state_of K new) text

-- what went out and was noted, and that a fault was counted
pub record Ended (takes_memory : Bool) (says : Saying) (unsaid : Unsaid) (entries : List Entry) (s : Status)
    (old new : SinkState) : Type 0 where
  pub outcome : Outcome takes_memory says unsaid entries s old.held new.held
  pub later : old.faults ≤ new.faults
  pub fault : s ≡ status.SinkFault → Rose old.faults new.faults

-- the run of this file with these settings ended so, over a sink of K
abbrev pub EndsFile : {S : Type 0} → SinkOf S → Settings → Option Files → List ℕ → Ending → S → S → Type 0
EndsFile K settings files name ending old new =
    Ended K.takes_memory (IsFileRun settings files name) (WantsInRead (begun settings files) name)
    ending.journal.entries ending.status (state_of K old) (state_of K new)

-- the run over these words ended so, over a sink of K
abbrev pub EndsRun : {S : Type 0} → SinkOf S → Option Files → List (List ℕ) → Ending → S → S → Type 0
EndsRun K files words ending old new =
    Ended K.takes_memory (RunText files words) (RunUnsaid files words) ending.journal.entries ending.status
    (state_of K old) (state_of K new)

-- a status that comes with a whole text
abbrev pub IsWhole : Status → Type 0
IsWhole status.Clean = Unit {0}
IsWhole status.SomeRefused = Unit {0}
IsWhole status.Usage = Unit {0}
IsWhole status.SourceFault = ⊥
IsWhole status.SinkFault = ⊥
IsWhole status.NoMemory = ⊥
IsWhole status.StreamTooLong = ⊥
