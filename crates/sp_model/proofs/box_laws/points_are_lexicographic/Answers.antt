use Rattle.sp_model.proofs.RisingLemmas.{points_rise}
use Rattle.sp_model.proofs.box_laws.points_are_lexicographic.Goals as goal

pub returns : goal.returns
returns c = points_rise
