use Rattle.sp_list.proofs.AnswerLemmas.{one_within}
use Rattle.sp_list.proofs.list_laws.list_within_is_unique.Goals as goal

pub returns : goal.returns
returns c = one_within
