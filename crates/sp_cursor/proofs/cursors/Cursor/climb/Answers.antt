use Rattle.std.proofs.Common.{arith}
use Rattle.sp_cursor.proofs.CursorLemmas.{way-more}
use Rattle.sp_cursor.proofs.cursors.Cursor.climb.Goals as goal

pub loop-last-preserved : goal.loop-last-preserved
loop-last-preserved c =
    let inv = c.loop-last.invariant in
    let less = c.above-last.ensures.less in
    let known = inv.known in
    record {
      cursor = record { hand = inv.cursor.hand; known = inv.cursor.known; back = inv.cursor.back; root = inv.cursor.root };
      known = omega (arith, less, known);
      way = rw c.in_ok-push.ensures.items (way-more c.args.tree.now c.loop-last.self.path.items c.loop-last.last c.above-last.result c.args.to inv.way c.above-last.ensures.child);
    }
