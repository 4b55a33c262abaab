use Rattle.std.proofs.Common.{length, sym, ◌∙◌}
use Rattle.sp_model.specs.InnerRounds.{marked}
use Rattle.sp_model.proofs.RowLemmas.{parts_known, row_idle}
use Rattle.sp_model.proofs.rounds.close_row.Goals as goal

pub may_close-requires : goal.may_close-requires
may_close-requires c = parts_known (length c.args.bounds.now) c.args.row.now (sym c.requires.taken ∙ c.if-not-taken.false)

pub note_tails-requires : goal.note_tails-requires
note_tails-requires c = rw c.as_slice.ensures (parts_known (length c.args.bounds.now) c.args.row.now (sym c.requires.taken ∙ c.if-not-taken.false))

pub returns-then-not-may_close-clause-closed : goal.returns-then-not-may_close-clause-closed
returns-then-not-may_close-clause-closed c = row_idle (marked c.args.marks.now) c.args.bounds.now c.args.row.now (c.may_close.ensures c.if-not-may_close.true)
