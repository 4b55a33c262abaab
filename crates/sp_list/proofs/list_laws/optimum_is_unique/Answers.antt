use Rattle.sp_list.proofs.AnswerLemmas.{one_optimum}
use Rattle.sp_list.proofs.list_laws.optimum_is_unique.Goals as goal

pub returns : goal.returns
returns c = one_optimum
