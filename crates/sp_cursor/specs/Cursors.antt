-- What is kept over the box of one node of a tree, and the way back from it to the root.
use Rattle.std.specs.Prelude.{◌≡◌, ℕ, ◌<◌, None, List, [], ◌∷◌, length, slice_set}
use Rattle.sp_model.specs.declared.parts.ModelParts.{ModelParts}
use Rattle.sp_model.specs.declared.parts.Row.{Row}
use Rattle.sp_model.specs.Boxes.{Bounds}
use Rattle.sp_model.specs.Models.{root_of}
use Rattle.sp_sums.specs.Ranges.{IsChange}
use Rattle.sp_activity.specs.Kept.{IsKeptOf, bounds_of}
use Rattle.sp_bound.specs.KeptBounds.{IsKeptOf as AreBoundsOf}
use Rattle.sp_tree.specs.Splits.{box_at}
use Rattle.sp_tree.specs.Trees.{IsGrown, TreeOf}
use Rattle.sp_cursor.specs.declared.hands.Hand.{Hand}
use Rattle.sp_cursor.specs.declared.cursors.Back.{Back}
use Rattle.sp_cursor.specs.declared.cursors.Cursor.{Cursor}

-- the objective as a row without sides
abbrev pub objective_row : ModelParts → Row
objective_row m = record { terms = m.cost; lo = None; hi = None }

-- the truths of the model, the bounds of its stated lists, and the sum of its objective, all over this box
pub record IsHand (m : ModelParts) (h : Hand) (b : Bounds) : Type 0 where
  pub truths : IsKeptOf m h.truths
  pub truths_over : bounds_of h.truths ≡ b
  pub lists : AreBoundsOf m h.lists
  pub lists_over : h.lists.sums.bounds ≡ b
  pub objective_root : h.objective.root ≡ root_of m
  pub objective_over : h.objective.bounds ≡ b
  pub objective_rows : h.objective.rows ≡ objective_row m ∷ []

-- from the box of node n a range of one variable gives that of a node before it
pub record IsBack (root : Bounds) (boxes : List Bounds) (p : Back) (n : ℕ) : Type 0 where
  pub order : p.node < n
  pub change : IsChange root p.var p.range
  pub box : slice_set (box_at boxes n) p.var p.range ≡ box_at boxes p.node

-- the first node of the way, node n where there is none
abbrev pub first_of : List Back → ℕ → ℕ
first_of [] n = n
first_of (p ∷ ps) n = p.node

-- each goes back from the node of the next one, and the last from node n
abbrev pub IsWayBack : Bounds → List Bounds → List Back → ℕ → Type 0
IsWayBack root boxes [] n = Unit {0}
IsWayBack root boxes (p ∷ ps) n = IsBack root boxes p (first_of ps n) × IsWayBack root boxes ps n

-- all is kept over the box of a node of the tree, and the way back from it begins at the root
pub record IsCursorOf (m : ModelParts) (t : TreeOf) (c : Cursor) : Type 0 where
  pub hand : IsHand m c.hand (box_at t.boxes c.node)
  pub known : c.node < length t.nodes
  pub back : IsWayBack (root_of m) t.boxes c.backs.items c.node
  pub root : first_of c.backs.items c.node ≡ 0

-- the tree's root has the closed box of the model
pub record HasRoot (m : ModelParts) (t : TreeOf) : Type 0 where
  pub grown : IsGrown t
  pub box : box_at t.boxes 0 ≡ root_of m
