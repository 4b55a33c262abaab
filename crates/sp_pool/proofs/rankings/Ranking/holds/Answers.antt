use Rattle.std.proofs.Common.{◌∙◌, ap}
use Rattle.sp_pool.specs.Pools.{holds}
use Rattle.sp_pool.specs.InnerLines.{members_in}
use Rattle.sp_pool.specs.InnerRanks.{Roll}
use Rattle.sp_pool.proofs.SerialLemmas.{tally_holds}
use Rattle.sp_pool.proofs.rankings.Ranking.holds.Goals as goal

pub returns : goal.returns
returns c =
    c.holds.ensures ∙ tally_holds c.args.serial c.self.inside.serials.items (members_in c.self.inside.line.items) c.self.invariant.tally ∙ ap (λ (r : Roll). holds r.members c.args.serial) c.self.view_is
