use Rattle.sp_list.proofs.AnswerLemmas.{one_best}
use Rattle.sp_list.proofs.list_laws.best_is_unique.Goals as goal

pub returns : goal.returns
returns c = one_best
