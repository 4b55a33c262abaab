-- The moves, from the clauses of the tree's calls.
use Rattle.std.proofs.Common.{◌≡◌, ℕ, Result, Ok, Err, IfOk, OnErr, ℤ, List, refl}
use Rattle.sp_model.specs.declared.parts.ModelParts.{ModelParts}
use Rattle.sp_model.specs.Boxes.{Bounds}
use Rattle.sp_activity.specs.Order.{IsOpen as IsUnreasoned}
use Rattle.sp_filter.specs.Held.{FilterList}
use Rattle.sp_tree.specs.declared.nodes.Node.{Node}
use Rattle.sp_tree.specs.declared.refusals.SplitRefusal.{SplitRefusal}
use Rattle.sp_tree.specs.Splits.{box_at}
use Rattle.sp_tree.specs.Trees.{TreeOf, IsGrown, SplitsNode}
use Rattle.sp_tree.specs.Laws.{Extends}
use Rattle.sp_dual.specs.Lists.{MultiplierList}
use Rattle.sp_cover.specs.Cover.{AreScreened, IsOpenAt, IsSearch, SearchOf}
use Rattle.sp_cover.specs.Moves.{moved_to}
use Rattle.sp_cover.proofs.EachLemmas.{MarksLast}
use Rattle.sp_cover.proofs.SplitLemmas.{splitting-keeps, splitting-screens}

pub tree-is : (t : TreeOf) (boxes : List Bounds) (nodes : List Node) (lists : List MultiplierList) → t.boxes ≡ boxes → t.nodes ≡ nodes → t.lists ≡ lists → t ≡ record { boxes = boxes; nodes = nodes; lists = lists }
tree-is t boxes nodes lists b n l = rw (← b, ← n, ← l) refl

pub split-searches : MarksLast → (r : Result (ℕ × ℕ) SplitRefusal) (m : ModelParts) (s : SearchOf) (t : TreeOf) (id var : ℕ) (at : ℤ)
    → IfOk r (λ made. SplitsNode s.tree t id var at made.0 made.1) → OnErr r (t ≡ s.tree) → IsGrown t → Extends s.tree t
    → IsOpenAt s.tree.nodes id → IsSearch m s → IsUnreasoned m (box_at s.tree.boxes id) → IsSearch m (moved_to s t)
split-searches last (Ok made) m s t id var at ok err grown ext here c free = splitting-keeps last m s t id var at made.0 made.1 c grown ext ok here.known here.open_is free
split-searches last (Err e) m s t id var at ok err grown ext here c free = rw err c

pub split-screens : (r : Result (ℕ × ℕ) SplitRefusal) (fs : FilterList) (s t : TreeOf) (id var : ℕ) (at : ℤ)
    → IfOk r (λ made. SplitsNode s t id var at made.0 made.1) → OnErr r (t ≡ s) → Extends s t
    → IsOpenAt s.nodes id → AreScreened fs s → AreScreened fs t
split-screens (Ok made) fs s t id var at ok err ext here h = splitting-screens fs s t id var at made.0 made.1 ext ok here.known h
split-screens (Err e) fs s t id var at ok err ext here h = rw err h
