use Rattle.std.proofs.Common.{◌≡◌, ℕ, false}
use Rattle.sp_filter.specs.Held.{FilterList}
use Rattle.sp_cover.specs.Cover.{IsOpenAt}
use Rattle.sp_search.specs.Runs.{IsRun, KeepsShut}
use Rattle.sp_search.specs.States.{HasCursor, IsCovered, IsState}
use Rattle.sp_search.specs.Measures.{open_room}
use Rattle.sp_search.proofs.optima.improve.Given as goal

abbrev pub invariant-loop-node : goal.invariant-loop-node
invariant-loop-node l = record {
  state : IsState l.state;
  run : IsRun l.fn.state l.state l.node_limit;
  kept : KeepsShut l.fn.state.search.tree.nodes l.state.search.tree.nodes;
  covered : (fs : FilterList) → IsCovered fs l.fn.state → IsCovered fs l.state;
  cursor : HasCursor l.state l.cursor;
  phase : (i : ℕ) → IsOpenAt l.state.search.tree.nodes i → l.state.search.proved ≡ false;
}

abbrev pub decreases-loop-node : goal.decreases-loop-node
decreases-loop-node l = open_room l.state.search.tree
