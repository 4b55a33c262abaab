-- What the notes of a journal say.
use Rattle.std.specs.Prelude.{◌≡◌, ℕ, Bool, true, false, List, [], ◌∷◌, ◌++◌, map, count_by, Option, ℤ}
use Rattle.sp_base.specs.Counts.{RoseBy, raised_by}
use Rattle.sp_base.specs.Shelf.{Files}
use Rattle.sp_base.specs.declared.shelves.Shelf.{Ghosts as ShelfOf}
use Rattle.sp_base.specs.declared.shelves.Fetched.{Fetched}
use Rattle.sp_base.specs.declared.shelves.Fetched.TheVariants as fetched
use Rattle.sp_engine.specs.declared.journals.Entry.{Entry}
use Rattle.sp_engine.specs.declared.journals.Entry.TheVariants as entry
use Rattle.sp_engine.specs.declared.journals.FetchNote.{FetchNote}
use Rattle.sp_engine.specs.declared.journals.FetchNote.TheVariants as note
use Rattle.sp_engine.specs.declared.journals.StoreNote.TheVariants as stored
use Rattle.sp_engine.specs.declared.journals.RunEnd.{RunEnd}

-- the shelf's answer that is noted so
abbrev pub answer_of : FetchNote → Fetched
answer_of (note.Bytes bytes) = fetched.Bytes bytes
answer_of note.Absent = fetched.Absent
answer_of note.TooLong = fetched.TooLong
answer_of note.Failed = fetched.Failed

-- a note of an answer of the shelf; that the file wasn't there; that it was too long; that the shelf failed
abbrev pub is_answer : Entry → Bool
is_answer (entry.Fetched answer) = true
is_answer (entry.Stored answer) = true
is_answer (entry.Found x) = false
is_answer (entry.Ended ended nodes) = false

abbrev pub is_absence : Entry → Bool
is_absence (entry.Fetched note.Absent) = true
is_absence e = false

abbrev pub is_overrun : Entry → Bool
is_overrun (entry.Fetched note.TooLong) = true
is_overrun e = false

abbrev pub is_fault : Entry → Bool
is_fault (entry.Fetched note.Failed) = true
is_fault (entry.Stored stored.Failed) = true
is_fault e = false

-- what is noted of a run: the points in the order in which they were found, and its end
abbrev pub run_notes : List (List ℤ) → RunEnd → ℕ → List Entry
run_notes found ended nodes = map entry.Found found ++ entry.Ended ended nodes ∷ []

-- all that contracts see of a shelf
pub record ShelfState : Type 0 where
  pub files : Option Files
  pub answers : ℕ
  pub absences : ℕ
  pub overruns : ℕ
  pub faults : ℕ

abbrev pub shelf_state : {S : Type 0} → ShelfOf S → S → ShelfState
shelf_state F s =
    record { files = F.files s; answers = F.answers s; absences = F.absences s; overruns = F.overruns s; faults = F.faults s }

-- no file changed, each answer of the shelf is noted, and its other counts rose by what is noted
pub record AreAnswers (notes : List Entry) (old new : ShelfState) : Type 0 where
  pub files : new.files ≡ old.files
  pub answers : new.answers ≡ raised_by (count_by is_answer notes) old.answers
  pub absences : RoseBy (count_by is_absence notes) old.absences new.absences
  pub overruns : RoseBy (count_by is_overrun notes) old.overruns new.overruns
  pub faults : RoseBy (count_by is_fault notes) old.faults new.faults
