-- What a listed model is.
use Rattle.std.specs.Prelude.{◌≡◌, ℕ, ◌^◌, ◌≤◌, List, [], IfSome, ℤ, unsigned_abs}
use Rattle.sp_meaning.specs.declared.models.NamedModel.{NamedModel}
use Rattle.sp_engine.specs.declared.runs.Listing.{Listing}
use Rattle.sp_engine.specs.declared.replies.Reply.{Reply}
use Rattle.sp_engine.specs.declared.replies.Reply.TheVariants as reply
use Rattle.sp_engine.specs.Listing.{ListsModel, after_run}
use Rattle.sp_engine.specs.Views.{Settings, View}

-- an optimum in a reply has at most this magnitude
abbrev pub IsSmall : Reply → Type 0
IsSmall (reply.Listed optimum serials) = IfSome optimum (λ v. unsigned_abs v ≤ 10 ^ 36)
IsSmall (reply.Read variables rows) = Unit {0}
IsSmall (reply.Stopped nodes) = Unit {0}
IsSmall (reply.Refused why) = Unit {0}

-- what a session says of the command that lists, where it read the model, has these settings and found nothing yet
pub record IsListing (named : NamedModel) (settings : Settings) (l : Listing) : Type 0 where
  pub names : l.names ≡ named.names
  pub model : l.state.model ≡ named.model
  pub small : IsSmall l.reply
  pub found : List (List ℤ)
  pub nodes : ℕ
  pub says : (view : View) → view.settings ≡ settings → view.filters ≡ [] → view.found ≡ [] → view.nodes ≡ 1
      → ListsModel named view l.notes.items l.reply (after_run view found nodes)
