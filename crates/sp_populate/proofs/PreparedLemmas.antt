-- A run of steps that collect goes on over a state with hints.
use Rattle.std.proofs.Common.{◌≡◌, ℕ, ◌≤◌, ◌⊎◌, inl, inr, Bool, Option, None, Some, IfSome, List, length, ℤ, ◌≤ℤ◌, refl, sym, ap, ◌∙◌, arith}
use Rattle.sp_model.specs.declared.parts.ModelParts.{ModelParts}
use Rattle.sp_filter.specs.Held.{FilterList}
use Rattle.sp_tree.specs.Laws.{Extends}
use Rattle.sp_tree.specs.declared.nodes.Node.{Node}
use Rattle.sp_tree.specs.Trees.{TreeOf}
use Rattle.sp_cover.specs.Cover.{IsOpenAt}
use Rattle.sp_cover.specs.Moves.{moved_to}
use Rattle.sp_cursor.specs.declared.cursors.Cursor.{Cursor}
use Rattle.sp_cursor.specs.Cursors.{IsCursorOf}
use Rattle.sp_search.specs.Measures.{open_room}
use Rattle.sp_search.specs.Prepared.{IsPrepared}
use Rattle.sp_search.specs.Runs.{KeepsShut}
use Rattle.sp_search.specs.States.{AreFit, HasCursor, StateOf, with_search}
use Rattle.sp_populate.specs.InnerEnds.{AreSettled, IsLater}
use Rattle.sp_populate.proofs.CollectLemmas.{Joined}

pub room-kept : (b c : StateOf) → IsPrepared b c → open_room c.search.tree ≡ open_room b.search.tree
room-kept b c h = rw (h.lists.boxes, h.lists.nodes) refl

pub leaf-kept : (b c : StateOf) (i : ℕ) → IsPrepared b c → IsOpenAt b.search.tree.nodes i → IsOpenAt c.search.tree.nodes i
leaf-kept b c i h leaf = rw h.lists.nodes leaf

pub shut-kept : (nodes : List Node) (b c : StateOf) → IsPrepared b c → KeepsShut nodes b.search.tree.nodes → KeepsShut nodes c.search.tree.nodes
shut-kept nodes b c h k = rw h.lists.nodes k

pub settled-kept : (cut : ℤ) (held : ℕ → Bool) (b c : StateOf) → IsPrepared b c → AreSettled cut held b.search.tree.nodes → AreSettled cut held c.search.tree.nodes
settled-kept cut held b c h k = rw h.lists.nodes k

pub found-kept : (b c : StateOf) → IsPrepared b c → c.search.found ≡ b.search.found
found-kept b c h = ap (λ s. s.search.found) h.rest

pub proved-kept : (b c : StateOf) → IsPrepared b c → c.search.proved ≡ b.search.proved
proved-kept b c h = ap (λ s. s.search.proved) h.rest

pub best-kept : (b c : StateOf) → IsPrepared b c → c.search.best ≡ b.search.best
best-kept b c h = ap (λ s. s.search.best) h.rest

pub model-kept : (b c : StateOf) → IsPrepared b c → c.model ≡ b.model
model-kept b c h = ap (λ s. s.model) h.rest

size-stays : (a b c limit : ℕ) → c ≡ b → (b ≤ limit) ⊎ (b ≤ a) → (c ≤ limit) ⊎ (c ≤ a)
size-stays a b c limit e (inl h) = inl (omega (arith, e, h))
size-stays a b c limit e (inr h) = inr (omega (arith, e, h))

rest-goes-on : (a b c : StateOf) → b ≡ with_search a b.search → c ≡ with_search b (moved_to b.search c.search.tree) → c ≡ with_search a c.search
rest-goes-on a b c h k =
    let same : c.search ≡ moved_to b.search c.search.tree = ap (λ s. s.search) k in
    k ∙ ap (λ s. with_search s (moved_to b.search c.search.tree)) h ∙ ap (λ s. with_search a s) (sym same)

pub later-kept : Joined → (a b c : StateOf) (cut : ℤ) (fs : FilterList) (limit : ℕ) → IsLater a b cut fs limit → IsPrepared b c → IsLater a c cut fs limit
later-kept join a b c cut fs limit run h = record {
  rest = rest-goes-on a b c run.rest h.rest;
  extends = join a.search.tree b.search.tree c.search.tree run.extends h.extends;
  size = size-stays (length a.search.tree.nodes) (length b.search.tree.nodes) (length c.search.tree.nodes) limit (ap length h.lists.nodes) run.size;
  best = best-kept b c h ∙ run.best;
  proved = proved-kept b c h ∙ run.proved;
  more = run.more;
  grows = found-kept b c h ∙ run.grows;
  wanted = run.wanted;
}

abbrev pub CursorsLast : Type 0
CursorsLast = (m : ModelParts) (old new : TreeOf) (c : Cursor) → Extends old new → IsCursorOf m old c → IsCursorOf m new c

some-lasts : CursorsLast → (m : ModelParts) (old new : TreeOf) (cursor : Option Cursor) → Extends old new → IfSome cursor (IsCursorOf m old) → IfSome cursor (IsCursorOf m new)
some-lasts last m old new None later h = tt
some-lasts last m old new (Some c) later h = last m old new c later h

pub cursor-kept : CursorsLast → (b c : StateOf) (cursor : Option Cursor) → IsPrepared b c → HasCursor b cursor → HasCursor c cursor
cursor-kept last b c cursor h k = rw (model-kept b c h) (some-lasts last b.model b.search.tree c.search.tree cursor h.extends k)

-- ---- what a step needs

pub above-kept : (a b c : StateOf) (cut : ℤ) (fs : FilterList) (limit : ℕ) → IsLater a b cut fs limit → IsPrepared b c → IfSome a.search.best (λ best. best ≤ℤ cut) → IfSome c.search.best (λ best. best ≤ℤ cut)
above-kept a b c cut fs limit run h k = let same : c.search.best ≡ a.search.best = best-kept b c h ∙ run.best in rw same k

pub fit-kept : (a b c : StateOf) (cut : ℤ) (fs : FilterList) (limit : ℕ) → IsLater a b cut fs limit → IsPrepared b c → AreFit a.model fs → AreFit c.model fs
fit-kept a b c cut fs limit run h k = let same : c.model ≡ a.model = model-kept b c h ∙ ap (λ s. s.model) run.rest in rw same k
