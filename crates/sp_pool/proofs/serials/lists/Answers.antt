use Rattle.std.proofs.Common.{◌∙◌}
use Rattle.sp_pool.proofs.SweepLemmas.{listed_by_halves}
use Rattle.sp_pool.proofs.serials.lists.Goals as goal

pub returns : goal.returns
returns c = c.is_ok.ensures.value ∙ listed_by_halves c.args.serials.now c.args.serial _ c.requires c.binary_search.ensures.position
