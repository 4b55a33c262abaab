-- What the parts of a run say.
use Rattle.std.specs.Prelude.{◌≡◌, ℕ, List, [], map, length, false, All, Option, ℤ}
use Rattle.sp_model.specs.declared.gaps.Gaps.{Gaps}
use Rattle.sp_model.specs.declared.parts.ModelParts.{ModelParts}
use Rattle.sp_filter.specs.Held.{FilterList}
use Rattle.sp_search.specs.States.{StateOf}
use Rattle.sp_populate.specs.Listings.{IsListing as IsStateListing}
use Rattle.sp_populate.specs.declared.populating.PopEnd.{PopEnd}
use Rattle.sp_populate.specs.declared.populating.PopEnd.TheVariants as pop
use Rattle.sp_engine.specs.declared.journals.Entry.{Entry}
use Rattle.sp_engine.specs.declared.journals.RunEnd.{RunEnd}
use Rattle.sp_engine.specs.declared.journals.RunEnd.TheVariants as end
use Rattle.sp_engine.specs.declared.replies.Reply.{Reply}
use Rattle.sp_engine.specs.declared.replies.Reply.TheVariants as reply
use Rattle.sp_engine.specs.LegalRuns.{Asked, IsLegalRun}
use Rattle.sp_engine.specs.Listing.{IsSerial}
use Rattle.sp_engine.specs.Notes.{run_notes}
use Rattle.sp_engine.specs.Runs.{IsSmall}
use Rattle.sp_engine.specs.SolutionLists.{Lists}
use Rattle.sp_engine.specs.Views.{Settings, point_of}

-- a search that found nothing yet
pub record IsFresh (s : StateOf) : Type 0 where
  pub found : s.search.found ≡ []
  pub early : s.search.proved ≡ false
  pub single : length s.search.tree.nodes ≡ 1

-- the listed points by their serials, with the least value that the state found
pub record IsListedBy (s : StateOf) (gaps : Gaps) (fs : FilterList) (r : Reply) : Type 0 where
  pub serials : List ℕ
  pub listing : IsStateListing s gaps fs serials
  pub reply_is : r ≡ reply.Listed s.search.best serials

-- the reply to a run that ended so and left this state
abbrev pub IsReplyOf : StateOf → Gaps → FilterList → PopEnd → Reply → Type 0
IsReplyOf s gaps fs pop.Done r = IsListedBy s gaps fs r
IsReplyOf s gaps fs pop.NodeLimit r = r ≡ reply.Stopped (length s.search.tree.nodes)
IsReplyOf s gaps fs pop.PopulateLimit r = r ≡ reply.Stopped (length s.search.tree.nodes)

-- how a run ended, in a journal's words
abbrev pub run_end : PopEnd → RunEnd
run_end pop.Done = end.Done
run_end pop.NodeLimit = end.NodeLimit
run_end pop.PopulateLimit = end.PopulateLimit

-- the first run of a model
abbrev pub first_run : ModelParts → Settings → Asked
first_run m settings = record { parts = m; settings = settings; filters = []; found = []; nodes = 1 }

-- the serials list these points
pub record ListsOf (m : ModelParts) (gaps : Gaps) (found : List (List ℤ)) (r : Reply) : Type 0 where
  pub optimum : Option ℤ
  pub serials : List ℕ
  pub reply_is : r ≡ reply.Listed optimum serials
  pub known : All (IsSerial (length found)) serials
  pub lists : Lists m gaps [] optimum (map (point_of found) serials)

-- the reply to a run that ended so
abbrev pub RepliesTo : RunEnd → ModelParts → Gaps → List (List ℤ) → ℕ → Reply → Type 0
RepliesTo end.Done m gaps found nodes r = ListsOf m gaps found r
RepliesTo end.NodeLimit m gaps found nodes r = r ≡ reply.Stopped nodes
RepliesTo end.Optimal m gaps found nodes r = ⊥
RepliesTo end.Infeasible m gaps found nodes r = ⊥
RepliesTo end.PopulateLimit m gaps found nodes r = ⊥

-- what the first run of a model notes and replies
pub record IsFirstRun (m : ModelParts) (settings : Settings) (notes : List Entry) (r : Reply) : Type 0 where
  pub found : List (List ℤ)
  pub ended : RunEnd
  pub nodes : ℕ
  pub noted : notes ≡ run_notes found ended nodes
  pub legal : IsLegalRun (first_run m settings) found ended nodes
  pub small : IsSmall r
  pub reply_is : RepliesTo ended m settings.gaps found nodes r
