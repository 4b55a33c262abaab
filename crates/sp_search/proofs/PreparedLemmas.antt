-- Lists that are kept for a hint change nothing else of a state.
use Rattle.std.proofs.Common.{◌≡◌, ℕ, ◌≤◌, ◌⊎◌, inl, inr, Option, List, length, refl, sym, ap, ◌∙◌, arith}
use Rattle.sp_model.specs.declared.parts.ModelParts.{ModelParts}
use Rattle.sp_tree.specs.Laws.{Extends}
use Rattle.sp_tree.specs.declared.nodes.Node.{Node}
use Rattle.sp_tree.specs.Trees.{TreeOf}
use Rattle.sp_filter.specs.Held.{FilterList}
use Rattle.sp_cover.specs.Cover.{AreScreened, IsEnded, IsOpenAt, IsSearch, SearchOf}
use Rattle.sp_cover.specs.Moves.{KeepsLists, moved_to}
use Rattle.sp_cursor.specs.declared.cursors.Cursor.{Cursor}
use Rattle.sp_search.specs.Measures.{open_room}
use Rattle.sp_search.specs.Prepared.{IsPrepared}
use Rattle.sp_search.specs.declared.goals.Goal.{Goal}
use Rattle.sp_search.specs.declared.goals.Stepped.{Stepped}
use Rattle.sp_search.specs.declared.goals.Stepped.TheVariants.{Full}
use Rattle.sp_search.specs.Runs.{IsRun, KeepsShut}
use Rattle.sp_search.specs.Steps.{Steps}
use Rattle.sp_search.specs.States.{HasCursor, IsState, StateOf, with_search}
use Rattle.sp_search.proofs.RunLemmas.{Joined, joined-found, same-from}
use Rattle.sp_search.proofs.CursorLemmas.{CursorsLast, some-lasts}
use Rattle.sp_search.proofs.StepLemmas.{stated-last}

ended-there : (a b : SearchOf) → b.tree.nodes ≡ a.tree.nodes → b.proved ≡ a.proved → IsEnded a → IsEnded b
ended-there a b nodes proved h = record { proved = λ shut. proved ∙ h.proved (λ i leaf. shut i (rw nodes leaf)) }

proved-of : (a b : SearchOf) → b ≡ moved_to a b.tree → b.proved ≡ a.proved
proved-of a b e = ap (λ s. s.proved) e

found-of-moved : (a b : SearchOf) → b ≡ moved_to a b.tree → b.found ≡ a.found
found-of-moved a b e = ap (λ s. s.found) e

ended-kept : (a b : SearchOf) → b ≡ moved_to a b.tree → KeepsLists a.tree b.tree → IsEnded a → IsEnded b
ended-kept a b e keeps h = ended-there a b keeps.nodes (proved-of a b e) h

pub state-kept : (m : ModelParts) (a b : SearchOf) (stated : ℕ) → b ≡ moved_to a b.tree → KeepsLists a.tree b.tree → ((n : ModelParts) → IsSearch n a → IsSearch n b)
    → IsState (record { model = m; search = a; stated = stated }) → IsState (record { model = m; search = b; stated = stated })
state-kept m a b stated e keeps goes h = record {
  lawful = h.lawful;
  search = goes m h.search;
  ended = ended-kept a b e keeps h.ended;
  stated = stated-last m a b stated h.stated keeps.lists;
}

pub prepared-from : (m : ModelParts) (a b : SearchOf) (stated : ℕ) → b ≡ moved_to a b.tree → KeepsLists a.tree b.tree → Extends a.tree b.tree → ((n : ModelParts) → IsSearch n a → IsSearch n b)
    → ((fs : FilterList) → AreScreened fs a.tree → AreScreened fs b.tree) → IsState (record { model = m; search = a; stated = stated })
    → IsPrepared (record { model = m; search = a; stated = stated }) (record { model = m; search = b; stated = stated })
prepared-from m a b stated e keeps extends goes screens h = record {
  rest = ap (λ s. with_search (record { model = m; search = a; stated = stated }) s) e;
  lists = keeps;
  extends = extends;
  state = state-kept m a b stated e keeps goes h;
  covered = λ fs k. record { search = goes m k.search; screened = screens fs k.screened; ended = ended-kept a b e keeps k.ended };
}

-- ---- a run that goes on over a state with hints

pub room-kept : (a b : TreeOf) → KeepsLists a b → open_room b ≡ open_room a
room-kept a b keeps = rw (keeps.boxes, keeps.nodes) refl

pub leaf-kept : (a b : TreeOf) (i : ℕ) → KeepsLists a b → IsOpenAt a.nodes i → IsOpenAt b.nodes i
leaf-kept a b i keeps leaf = rw keeps.nodes leaf

pub shut-kept : (nodes : List Node) (a b : TreeOf) → KeepsLists a b → KeepsShut nodes a.nodes → KeepsShut nodes b.nodes
shut-kept nodes a b keeps h = rw keeps.nodes h

size-kept : (a b : TreeOf) → KeepsLists a b → length b.nodes ≡ length a.nodes
size-kept a b keeps = ap length keeps.nodes

size-stays : (a b c limit : ℕ) → c ≡ b → (b ≤ limit) ⊎ (b ≤ a) → (c ≤ limit) ⊎ (c ≤ a)
size-stays a b c limit e (inl h) = inl (omega (arith, e, h))
size-stays a b c limit e (inr h) = inr (omega (arith, e, h))

rest-goes-on : (a b c : StateOf) → b ≡ with_search a b.search → c ≡ with_search b (moved_to b.search c.search.tree) → c ≡ with_search a c.search
rest-goes-on a b c h k =
    let same : c.search ≡ moved_to b.search c.search.tree = ap (λ s. s.search) k in
    k ∙ ap (λ s. with_search s (moved_to b.search c.search.tree)) h ∙ ap (λ s. with_search a s) (sym same)

pub run-prepared : Joined → (a b c : StateOf) (limit : ℕ) → IsRun a b limit → IsPrepared b c → IsRun a c limit
run-prepared join a b c limit run h =
    let same : c.search ≡ moved_to b.search c.search.tree = ap (λ s. s.search) h.rest in
    record {
      rest = rest-goes-on a b c run.rest h.rest;
      extends = join a.search.tree b.search.tree c.search.tree run.extends h.extends;
      size = size-stays (length a.search.tree.nodes) (length b.search.tree.nodes) (length c.search.tree.nodes) limit (size-kept b.search.tree c.search.tree h.lists) run.size;
      found = joined-found a.search.found b.search.found c.search.found run.found (same-from b.search.found c.search.found (found-of-moved b.search c.search same));
    }

pub proved-prepared : (b c : StateOf) → IsPrepared b c → c.search.proved ≡ b.search.proved
proved-prepared b c h = ap (λ s. s.search.proved) h.rest

pub model-prepared : (b c : StateOf) → IsPrepared b c → c.model ≡ b.model
model-prepared b c h = ap (λ s. s.model) h.rest

pub cursor-prepared : CursorsLast → (b c : StateOf) (cursor : Option Cursor) → IsPrepared b c → HasCursor b cursor → HasCursor c cursor
cursor-prepared last b c cursor h k = rw (model-prepared b c h) (some-lasts last b.model b.search.tree c.search.tree cursor h.extends k)

pub full-stays : (m : ModelParts) (old new : SearchOf) (goal : Goal) (node limit : ℕ) (stepped : Stepped) → stepped ≡ Full → Steps m old new goal node limit stepped → new ≡ old
full-stays m old new goal node limit stepped is h = let g = rw is at h in g.1
