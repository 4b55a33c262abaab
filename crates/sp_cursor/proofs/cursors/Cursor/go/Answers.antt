use Rattle.std.proofs.Common.{ap, refl}
use Rattle.sp_cursor.proofs.CursorLemmas.{way-child, way-end, way-less}
use Rattle.sp_cursor.proofs.cursors.Cursor.go.Goals as goal

pub down-requires-clause-cursor : goal.down-requires-clause-cursor
down-requires-clause-cursor c =
    let inv = c.loop-node.invariant in
    record { hand = inv.cursor.hand; known = inv.cursor.known; back = inv.cursor.back; root = inv.cursor.root }

pub down-requires-clause-child : goal.down-requires-clause-child
down-requires-clause-child c =
    way-child c.args.tree.now c.loop-node.self.path.items c.pop.new.self.items c.in-Some.node c.loop-node.self.node c.args.to c.in-Some.ensures.items c.loop-node.invariant.way

pub loop-node-preserved : goal.loop-node-preserved
loop-node-preserved c =
    record {
      cursor = c.down.ensures.cursor;
      way = rw (c.down.ensures.path, c.in_ok-down.ensures.node) (way-less c.args.tree.now c.loop-node.self.path.items c.pop.new.self.items c.in-Some.node c.loop-node.self.node c.args.to c.in-Some.ensures.items c.loop-node.invariant.way);
    }

pub returns-clause-cursor : goal.returns-clause-cursor
returns-clause-cursor c =
    let inv = c.loop-node.invariant in
    record { hand = inv.cursor.hand; known = inv.cursor.known; back = inv.cursor.back; root = inv.cursor.root }
