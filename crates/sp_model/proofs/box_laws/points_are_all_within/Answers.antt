use Rattle.sp_model.proofs.PointLemmas.{contains_points}
use Rattle.sp_model.proofs.box_laws.points_are_all_within.Goals as goal

pub returns : goal.returns
returns c = contains_points
