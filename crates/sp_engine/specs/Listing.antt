-- What the command that lists the solutions says.
use Rattle.std.specs.Prelude.{◌≡◌, ℕ, ◌≤◌, List, ◌++◌, length, map, All, Option, None, Some, ℤ}
use Rattle.sp_engine.specs.declared.journals.Entry.{Entry}
use Rattle.sp_engine.specs.declared.journals.RunEnd.{RunEnd}
use Rattle.sp_engine.specs.declared.journals.RunEnd.TheVariants as end
use Rattle.sp_meaning.specs.declared.models.NamedModel.{NamedModel}
use Rattle.sp_engine.specs.declared.replies.Reply.{Reply}
use Rattle.sp_engine.specs.declared.replies.Reply.TheVariants as reply
use Rattle.sp_engine.specs.LegalRuns.{IsLegalRun, asked_of}
use Rattle.sp_engine.specs.SolutionLists.{Lists}
use Rattle.sp_engine.specs.Notes.{run_notes}
use Rattle.sp_engine.specs.Views.{View, point_of}

-- the data after a run that found these points
abbrev pub after_run : View → List (List ℤ) → ℕ → View
after_run view found nodes = record view { found = view.found ++ found; nodes = nodes }

-- a serial of one of so many points
pub record IsSerial (count : ℕ) (serial : ℕ) : Type 0 where
  pub first : 1 ≤ serial
  pub last : serial ≤ count

-- the list is told by the serials of its points among those that were found
pub record ListsFound (named : NamedModel) (after : View) (r : Reply) : Type 0 where
  pub optimum : Option ℤ
  pub serials : List ℕ
  pub reply_is : r ≡ reply.Listed optimum serials
  pub known : All (IsSerial (length after.found)) serials
  pub lists : Lists named.model after.settings.gaps after.filters optimum (map (point_of after.found) serials)

-- the reply after a run that ended so; a list ends in no other way
abbrev pub RepliesAfter : RunEnd → NamedModel → ℕ → View → Reply → Type 0
RepliesAfter end.Done named nodes after r = ListsFound named after r
RepliesAfter end.NodeLimit named nodes after r = r ≡ reply.Stopped nodes
RepliesAfter end.Optimal named nodes after r = ⊥
RepliesAfter end.Infeasible named nodes after r = ⊥
RepliesAfter end.PopulateLimit named nodes after r = ⊥

-- the model was run: what was found is noted and legal, and the reply fits the run's end
pub record ListsModel (named : NamedModel) (view : View) (notes : List Entry) (r : Reply) (after : View) : Type 0 where
  pub found : List (List ℤ)
  pub ended : RunEnd
  pub nodes : ℕ
  pub noted : notes ≡ run_notes found ended nodes
  pub legal : IsLegalRun (asked_of view named.model) found ended nodes
  pub after_is : after ≡ after_run view found nodes
  pub reply_is : RepliesAfter ended named nodes after r

-- the solutions of the model that was read; a session without one isn't asked
abbrev pub SaysList : Option NamedModel → View → List Entry → Reply → View → Type 0
SaysList None view notes r after = ⊥
SaysList (Some named) view notes r after = ListsModel named view notes r after
