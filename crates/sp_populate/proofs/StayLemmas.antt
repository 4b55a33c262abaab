-- Phase one stays ended while a leaf is open: there is a mark on its path, and before the end of phase one there is none.
use Rattle.std.proofs.Common.{◌≡◌, ℕ, zero, suc, ◌<◌, Bool, true, false, Option, None, Some, IsSome, List, [], ◌∷◌, length, refl, arith}
use Rattle.std.proofs.lemmas.Bool.{false≢true}
use Rattle.sp_model.specs.declared.parts.ModelParts.{ModelParts}
use Rattle.sp_tree.specs.declared.nodes.Bound.{Bound}
use Rattle.sp_tree.specs.declared.nodes.Node.{Node}
use Rattle.sp_tree.specs.declared.nodes.Kind.{Kind}
use Rattle.sp_tree.specs.declared.nodes.Kind.TheVariants.{Open}
use Rattle.sp_tree.specs.Laws.{Extends, HasMark, above, own}
use Rattle.sp_tree.specs.Trees.{TreeOf, node_at}
use Rattle.sp_cover.specs.Cover.{IsOpenAt, IsSearch, SearchOf, needs_mark}
use Rattle.sp_search.specs.States.{IsState, StateOf}

unmarked : (nodes : List Node) → ((i : ℕ) → i < length nodes → (node_at nodes i).mark ≡ None) → (i : ℕ) → (node_at nodes i).mark ≡ None
unmarked [] h i = refl
unmarked (n ∷ nodes) h zero = h 0 (omega arith)
unmarked (n ∷ nodes) h (suc i) = unmarked nodes (λ j j-in. h (suc j) (omega (arith, j-in))) i

some-none : (mark : Option Bound) → mark ≡ None → IsSome mark → ⊥
some-none None e h = false≢true h
some-none (Some bound) e h = cc

no-mark : (nodes : List Node) → ((i : ℕ) → (node_at nodes i).mark ≡ None) → (i : ℕ) → HasMark nodes i → ⊥
no-mark nodes none i (own h) = some-none (node_at nodes i).mark (none i) h
no-mark nodes none i (above p child h) = no-mark nodes none p h

open-needs : (k : Kind) → k ≡ Open → needs_mark k ≡ true
open-needs k is = rw is refl

abbrev pub MarksLast : Type 0
MarksLast = (a b : TreeOf) → Extends a b → (i : ℕ) → i < length a.nodes → HasMark a.nodes i → HasMark b.nodes i

by-phase : (m : ModelParts) (s : SearchOf) (proved : Bool) → s.proved ≡ proved → IsSearch m s → (i : ℕ) → HasMark s.tree.nodes i → proved ≡ true
by-phase m s true e h i mark = refl
by-phase m s false e h i mark = absurd (no-mark s.tree.nodes (unmarked s.tree.nodes (λ j j-in. ((h.nodes j j-in).early e).unmarked)) i mark)

pub stays-proved : MarksLast → (old new : StateOf) (node : ℕ) → IsState old → IsState new → Extends old.search.tree new.search.tree → IsOpenAt old.search.tree.nodes node
    → old.search.proved ≡ true → new.search.proved ≡ true
stays-proved last old new node before after extends leaf e =
    let here = before.search.marked e node leaf.known (open-needs (node_at old.search.tree.nodes node).kind leaf.open_is) in
    by-phase new.model new.search new.search.proved refl after.search node (last old.search.tree new.search.tree extends node leaf.known here)
