use Rattle.std.proofs.Common.{◌≡◌, ◌+◌, length}
use Rattle.sp_tree.specs.Trees.{is_held}
use Rattle.sp_search.specs.Measures.{open_room}
use Rattle.sp_search.specs.Runs.{KeepsShut}
use Rattle.sp_search.specs.States.{HasCursor, IsCovered, IsState}
use Rattle.sp_populate.specs.InnerEnds.{AreSettled, IsLater}
use Rattle.sp_populate.proofs.populating.take_leaves.Given as goal

abbrev pub invariant-loop-node : goal.invariant-loop-node
invariant-loop-node l = record {
  state : IsState l.state;
  run : IsLater l.fn.state l.state l.fn.cut l.filters l.node_limit;
  settled : AreSettled l.fn.cut (is_held l.filters) l.state.search.tree.nodes;
  touched : KeepsShut l.fn.state.search.tree.nodes l.state.search.tree.nodes;
  covered : IsCovered l.filters l.fn.state → IsCovered l.filters l.state;
  cursor : HasCursor l.state l.cursor;
  count : length l.state.search.found + l.left ≡ length l.fn.state.search.found + l.found_limit;
}

abbrev pub decreases-loop-node : goal.decreases-loop-node
decreases-loop-node l = open_room l.state.search.tree
