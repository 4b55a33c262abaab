use Rattle.std.proofs.Common.{◌∙◌, sym}
use Rattle.sp_mps.proofs.GatherLemmas.{term_next}
use Rattle.sp_mps.proofs.row_tables.term_table.Goals as goal

pub loop-term-preserved : goal.loop-term-preserved
loop-term-preserved c = c.in_ok-add_term.ensures ∙ term_next c.args.count c.loop-term.term-index c.args.terms.now c.term-item.result c.loop-term.table.items c.loop-term-test.true (sym c.term-item.is) c.loop-term.invariant
