use Rattle.std.proofs.Common.{◌∙◌}
use Rattle.sp_sums.proofs.KeptLemmas.{tally_count}
use Rattle.sp_sums.proofs.kept.Sums.broken.Goals as goal

pub returns : goal.returns
returns c =
    rw (← c.self.view_is) (c.count.ensures ∙ tally_count c.self.inside.bounds c.self.inside.rows.items c.self.inside.tally.spans c.self.inside.tally.broken c.self.invariant.tally)
