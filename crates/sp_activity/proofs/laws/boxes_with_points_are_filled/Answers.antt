use Rattle.sp_activity.proofs.FilledLemmas.{filled_by_count}
use Rattle.sp_activity.proofs.laws.boxes_with_points_are_filled.Goals as goal

pub returns : goal.returns
returns c = filled_by_count
