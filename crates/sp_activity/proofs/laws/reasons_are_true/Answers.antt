use Rattle.sp_activity.proofs.TruthLemmas.{denies}
use Rattle.sp_activity.proofs.laws.reasons_are_true.Goals as goal

pub returns : goal.returns
returns c = λ m b r x h w f. denies m b x c.broken_rows_hold_nowhere.ensures r h w f
