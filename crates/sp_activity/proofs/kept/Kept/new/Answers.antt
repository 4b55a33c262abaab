use Rattle.std.proofs.Common.{ap}
use Rattle.sp_model.specs.Models.{root_of}
use Rattle.sp_sums.specs.Rows.{RowsOver}
use Rattle.sp_activity.proofs.StepLemmas.{put_together}
use Rattle.sp_activity.proofs.kept.Kept.new.Goals as goal

pub returns-clause-kept : goal.returns-clause-kept
returns-clause-kept c =
    rw c.joined.ensures (put_together c.args.model.now (root_of c.args.model.now) record { rows = c.in_ok-sums.sums.0; gates = c.in_ok-sums.sums.1; broken = c.in_ok-truths.truths.0; uses = c.in_ok-truths.truths.1 } c.in_ok-sums.ensures.rows c.in_ok-sums.ensures.gates c.in_ok-truths.ensures.broken c.in_ok-truths.ensures.uses)

pub returns-clause-bounds : goal.returns-clause-bounds
returns-clause-bounds c = rw c.joined.ensures (ap (λ (s : RowsOver). s.bounds) c.in_ok-sums.ensures.rows)
