use Rattle.std.proofs.Common.{ℕ, vec_len}
use Rattle.sp_cursor.specs.Cursors.{IsCursorOf}
use Rattle.sp_cursor.specs.InnerCursors.{IsWayDown}
use Rattle.sp_cursor.proofs.cursors.Cursor.go.Given as goal

abbrev pub invariant-loop-node : goal.invariant-loop-node
invariant-loop-node l = record {
  cursor : IsCursorOf l.model l.tree l.self;
  way : IsWayDown l.tree l.self.path.items l.self.node l.fn.to;
}

abbrev pub decreases-loop-node : goal.decreases-loop-node
decreases-loop-node l = vec_len l.self.path
