use Rattle.sp_model.proofs.SoundLemmas.{feasible_within}
use Rattle.sp_model.proofs.model_laws.feasible_is_within.Goals as goal

pub returns : goal.returns
returns c = λ m x l f. feasible_within m x l.box f
