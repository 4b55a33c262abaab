-- The room for nodes that the open leaves of a tree have: what a loop of steps uses up.
use Rattle.std.specs.Prelude.{ℕ}
use Rattle.sp_model.specs.Boxes.{Bounds, point_count, room}
use Rattle.sp_tree.specs.declared.nodes.Node.{Node}
use Rattle.sp_tree.specs.declared.nodes.Kind.{Kind}
use Rattle.sp_tree.specs.declared.nodes.Kind.TheVariants.{Split, Open, Dead, Bounded, Screened, Point}
use Rattle.sp_tree.specs.Splits.{total}
use Rattle.sp_tree.specs.Trees.{TreeOf}

-- an open leaf has what its box has, any other node nothing
abbrev pub open_weight : Kind → ℕ → ℕ
open_weight (Split var at left right) n = 0
open_weight Open n = n
open_weight (Dead reason) n = 0
open_weight (Bounded bound) n = 0
open_weight (Screened f) n = 0
open_weight (Point serial) n = 0

-- the nodes that the whole tree below an open node may have, itself among them
abbrev pub node_room : Node → Bounds → ℕ
node_room n b = open_weight n.kind (room (point_count b))

abbrev pub open_room : TreeOf → ℕ
open_room t = total node_room t.nodes t.boxes
