use Rattle.std.proofs.Common.{◌+◌, drop}
use Rattle.std.proofs.lemmas.List.{drop_all}
use Rattle.sp_sums.proofs.MoveLemmas.{next_item, in_box, moving_start, moving_next, moving_turn, moving_stop}
use Rattle.sp_sums.proofs.tallies.Tally.move_column.Goals as goal

pub range-from-requires : goal.range-from-requires
range-from-requires c = in_box c.args.root.now c.args.bounds.now c.args.rows.now c.args.var c.args.to.now c.requires.change

pub loop-entry-init : goal.loop-entry-init
loop-entry-init c = record {
  moving = moving_start c.args.root.now c.args.bounds.now c.args.rows.now c.args.var c.args.to.now c.args.column.now c.args.self.now.spans c.requires.change c.requires.column c.requires.tally.spans;
  marked = c.requires.tally.marked;
}

pub move_row-requires-clause-paired : goal.move_row-requires-clause-paired
move_row-requires-clause-paired c = c.loop-entry.invariant.moving.long

pub move_row-requires-clause-marked : goal.move_row-requires-clause-marked
move_row-requires-clause-marked c = c.loop-entry.invariant.marked

pub move_row-requires-clause-next : goal.move_row-requires-clause-next
move_row-requires-clause-next c =
    let d = next_item c.args.column.now c.loop-entry.entry-index c.entry-item.result c.loop-entry-test.true c.entry-item.is in
    let next = moving_next c.args.root.now c.args.bounds.now c.args.rows.now c.args.var c.args.to.now c.entry-item.result (drop (c.loop-entry.entry-index + 1) c.args.column.now) c.loop-entry.self.spans c.requires.change (rw d at c.loop-entry.invariant.moving) in
    rw c.range-from.ensures next

pub loop-entry-preserved : goal.loop-entry-preserved
loop-entry-preserved c =
    let d = next_item c.args.column.now c.loop-entry.entry-index c.entry-item.result c.loop-entry-test.true c.entry-item.is in
    let spans = rw c.range-from.ensures at c.move_row.ensures.spans in
    record {
      moving = moving_turn c.args.root.now c.args.bounds.now c.args.rows.now c.args.var c.args.to.now c.entry-item.result (drop (c.loop-entry.entry-index + 1) c.args.column.now) c.loop-entry.self.spans c.move_row.new.self.spans (rw d at c.loop-entry.invariant.moving) spans;
      marked = c.move_row.ensures.marked;
    }

pub returns : goal.returns
returns c =
    let d = drop_all c.loop-entry.entry-index c.args.column.now c.loop-entry-test.false in
    record {
      spans = moving_stop c.args.root.now c.args.bounds.now c.args.rows.now c.args.var c.args.to.now c.loop-entry.self.spans (rw d at c.loop-entry.invariant.moving);
      marked = c.loop-entry.invariant.marked;
    }
