-- What holds of every tree, and what lasts from one tree to a later one.
use Rattle.std.specs.Prelude.{◌≡◌, ℕ, ◌<◌, ◌≤◌, ◌⊎◌, None, IsSome, Option, List, length, ℤ}
use Rattle.sp_model.specs.Boxes.{Bounds, IsWithin}
use Rattle.sp_tree.specs.Splits.{Parts, box_at, parts_at, IsChild}
use Rattle.sp_tree.specs.Tables.{IsPrefix}
use Rattle.sp_tree.specs.Trees.{TreeOf, node_at, splits}
use Rattle.sp_tree.specs.declared.nodes.Node.{Node}
use Rattle.sp_tree.specs.declared.nodes.Kind.{Kind}
use Rattle.sp_tree.specs.declared.nodes.Kind.TheVariants.{Split, Open, Dead, Bounded, Screened, Point}

-- the point lies in the box of leaf i
pub record LiesInLeaf (boxes : List Bounds) (parts : List (Option Parts)) (x : List ℤ) (i : ℕ) : Type 0 where
  pub known : i < length boxes
  pub leaf : parts_at parts i ≡ None
  pub within : IsWithin (box_at boxes i) x

-- each point of the root's box lies in exactly one leaf's box, and no other point in any
pub record IsPartition (boxes : List Bounds) (parts : List (Option Parts)) : Type 0 where
  pub covers : (x : List ℤ) → IsWithin (box_at boxes 0) x → (i : ℕ) × LiesInLeaf boxes parts x i
  pub apart : (x : List ℤ) (i j : ℕ) → LiesInLeaf boxes parts x i → LiesInLeaf boxes parts x j → i ≡ j
  pub inside : (x : List ℤ) (i : ℕ) → LiesInLeaf boxes parts x i → IsWithin (box_at boxes 0) x

-- what a node of each kind is later: its kind is new then, and marked says that it has a mark
abbrev pub KindLasts : Kind → Kind → Type 0 → Type 0
KindLasts (Split var at left right) new marked = new ≡ Split var at left right
KindLasts Open new marked = Unit {0}
KindLasts (Dead reason) new marked = new ≡ Dead reason
KindLasts (Bounded bound) new marked = (new ≡ Bounded bound) ⊎ marked
KindLasts (Screened filter) new marked = Unit {0}
KindLasts (Point serial) new marked = new ≡ Point serial

pub record Lasts (old new : Node) : Type 0 where
  pub kind : KindLasts old.kind new.kind (IsSome new.mark)
  pub mark : IsSome old.mark → IsSome new.mark

-- the old table is a prefix of the new one; each old node is in the new tree with its box; a split, a dead and a point leaf
-- stay, a bounded leaf stays or its node has a mark, and a node with a mark has one
pub record Extends (old new : TreeOf) : Type 0 where
  pub table : IsPrefix old.lists new.lists
  pub known : length old.nodes ≤ length new.nodes
  pub boxes : (i : ℕ) → i < length old.nodes → box_at new.boxes i ≡ box_at old.boxes i
  pub nodes : (i : ℕ) → i < length old.nodes → Lasts (node_at old.nodes i) (node_at new.nodes i)

-- a node that no call changes: a split, a dead leaf, a point leaf
abbrev pub IsFinal : Kind → Type 0
IsFinal (Split var at left right) = Unit {0}
IsFinal Open = ⊥
IsFinal (Dead reason) = Unit {0}
IsFinal (Bounded bound) = ⊥
IsFinal (Screened filter) = ⊥
IsFinal (Point serial) = Unit {0}

-- each final node of the old list stands in the new one as it was, its mark too
pub record KeepsFinal (old new : List Node) : Type 0 where
  pub known : length old ≤ length new
  pub same : (i : ℕ) → i < length old → IsFinal (node_at old i).kind → node_at new i ≡ node_at old i

-- a mark on the way from a node up to the root, its own node included
pub data HasMark (nodes : List Node) : ℕ → Type 0 where
  own : {i : ℕ} → IsSome (node_at nodes i).mark → HasMark nodes i
  above : {i : ℕ} (p : ℕ) → IsChild (parts_at (splits nodes) p) i → HasMark nodes p → HasMark nodes i
