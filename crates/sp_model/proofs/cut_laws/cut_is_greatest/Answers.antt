use Rattle.sp_model.proofs.CutLemmas.{le_cut}
use Rattle.sp_model.proofs.cut_laws.cut_is_greatest.Goals as goal

pub returns : goal.returns
returns c = le_cut
