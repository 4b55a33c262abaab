use Rattle.sp_model.proofs.SplitLemmas.{length_points}
use Rattle.sp_model.proofs.box_laws.points_are_counted.Goals as goal

pub returns : goal.returns
returns c = length_points
