-- Which notes of a journal are the first command's, and when a list comes.
use Rattle.std.proofs.Common.{◌≡◌, ◌≤◌, subst, true, arith, ℕ, suc, List, [], ◌∷◌, ◌++◌, length, Option, None, Some, refl, sym, ap, ◌∙◌}
use Rattle.std.specs.Prelude.{ℤ}
use Rattle.sp_engine.specs.declared.commands.Command.{Command}
use Rattle.sp_engine.specs.declared.commands.Command.TheVariants as command
use Rattle.sp_engine.specs.declared.journals.Entry.{Entry}
use Rattle.sp_engine.specs.declared.journals.RunEnd.{RunEnd}
use Rattle.sp_engine.specs.declared.journals.RunEnd.TheVariants as end
use Rattle.sp_engine.specs.declared.replies.Reply.{Reply}
use Rattle.sp_engine.specs.LegalRuns.{room_of}
use Rattle.sp_engine.specs.Replies.{is_listed}
use Rattle.sp_engine.specs.Notes.{run_notes}
use Rattle.sp_engine.specs.Sessions.{Says, end_of_run, share_of}
use Rattle.sp_engine.specs.Listing.{ListsModel, RepliesAfter, SaysList}
use Rattle.sp_meaning.specs.declared.models.NamedModel.{NamedModel}
use Rattle.sp_engine.specs.Views.{View}

-- a run's notes end with the first note that ends a run
run_ends : (found : List (List ℤ)) (ended : RunEnd) (nodes : ℕ) (rest : List Entry) → end_of_run (run_notes found ended nodes ++ rest) ≡ length (run_notes found ended nodes)
run_ends [] ended nodes rest = refl
run_ends (x ∷ xs) ended nodes rest = ap suc (run_ends xs ended nodes rest)

pub one_division : (view after : View) (c : Command) (notes rest : List Entry) (r : Reply) → Says view c notes r after → share_of c (notes ++ rest) ≡ length notes
one_division view after (command.Read name) notes rest r says = sym (ap length says.noted)
one_division view after command.List notes rest r says = by view.model says
  where
    by : (model : Option NamedModel) → SaysList model view notes r after → end_of_run (notes ++ rest) ≡ length notes
    by None lists = absurd lists
    by (Some named) lists = ap (λ es. end_of_run (es ++ rest)) lists.noted ∙ run_ends lists.found lists.ended lists.nodes rest ∙ sym (ap length lists.noted)

-- with room for the model's largest tree nothing stops the run
roomy : (view after : View) (named : NamedModel) (notes : List Entry) (r : Reply) → ListsModel named view notes r after → room_of named.model ≤ view.settings.node_limit → is_listed r ≡ true
roomy view after named notes r lists room = by lists.ended refl lists.reply_is
  where
    by : (e : RunEnd) → lists.ended ≡ e → RepliesAfter e named lists.nodes after r → is_listed r ≡ true
    by end.Done e h = ap is_listed h.reply_is
    by end.NodeLimit e h = absurd (let needed = (lists.legal.stopped e).needed in omega (arith, needed, room))
    by end.Optimal e h = absurd h
    by end.Infeasible e h = absurd h
    by end.PopulateLimit e h = absurd h

pub roomy_list : (view after : View) (named : NamedModel) (notes : List Entry) (r : Reply) → view.model ≡ Some named → Says view command.List notes r after → room_of named.model ≤ view.settings.node_limit
    → is_listed r ≡ true
roomy_list view after named notes r model says room = roomy view after named notes r (subst (λ m. SaysList m view notes r after) model says) room
