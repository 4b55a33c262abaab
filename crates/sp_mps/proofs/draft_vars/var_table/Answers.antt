use Rattle.std.proofs.Common.{◌∙◌, sym, false}
use Rattle.sp_mps.specs.Drafts.{plain_var}
use Rattle.sp_mps.specs.inner.Tables.{first_at}
use Rattle.sp_mps.proofs.GatherLemmas.{var_next}
use Rattle.sp_mps.proofs.draft_vars.var_table.Goals as goal

pub loop-bound-preserved : goal.loop-bound-preserved
loop-bound-preserved c = c.add_bound.ensures ∙ var_next c.args.count (first_at c.args.integers.now c.args.bounded.now) (plain_var false) c.loop-bound.bound-index c.args.bounds.now c.bound-item.result c.loop-bound.table.items c.loop-bound-test.true (sym c.bound-item.is) c.loop-bound.invariant
