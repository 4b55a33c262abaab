use Rattle.std.proofs.Common.{ℕ, ◌+◌, ◌<◌, length}
use Rattle.sp_cursor.specs.Cursors.{IsCursorOf}
use Rattle.sp_cursor.specs.InnerCursors.{IsWayDown}
use Rattle.sp_cursor.proofs.cursors.Cursor.climb.Given as goal

abbrev pub invariant-loop-last : goal.invariant-loop-last
invariant-loop-last l = record {
  cursor : IsCursorOf l.model l.tree l.self;
  known : l.last < length l.tree.nodes;
  way : IsWayDown l.tree l.self.path.items l.last l.fn.to;
}

abbrev pub decreases-loop-last : goal.decreases-loop-last
decreases-loop-last l = l.self.node + l.last
