use Rattle.sp_activity.proofs.InsideLemmas.{stays}
use Rattle.sp_activity.proofs.laws.reasons_stay.Goals as goal

pub returns : goal.returns
returns c = λ m b i r h g. stays m b i c.broken_rows_stay_broken.ensures.low c.broken_rows_stay_broken.ensures.high h r g
