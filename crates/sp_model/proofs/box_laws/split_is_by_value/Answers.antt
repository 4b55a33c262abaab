use Rattle.sp_model.proofs.SplitLemmas.{below_is, above_is}
use Rattle.sp_model.proofs.box_laws.split_is_by_value.Goals as goal

pub returns : goal.returns
returns c = record { lower = below_is; upper = above_is }
