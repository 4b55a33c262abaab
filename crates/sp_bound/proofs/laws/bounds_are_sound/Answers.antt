use Rattle.sp_bound.proofs.SoundLemmas.{sound}
use Rattle.sp_bound.proofs.laws.bounds_are_sound.Goals as goal

pub returns : goal.returns
returns c = sound (record { law = c.quotients_are_exact.ensures.ceiling }) (record { law = c.sums_lie_between.ensures })
