use Rattle.sp_model.proofs.PointLemmas.{within_iff_lies_in}
use Rattle.sp_model.proofs.box_laws.within_is_tested.Goals as goal

pub returns : goal.returns
returns c = within_iff_lies_in
