use Rattle.sp_list.proofs.AnswerLemmas.{one_found}
use Rattle.sp_list.proofs.list_laws.found_list_is_unique.Goals as goal

pub returns : goal.returns
returns c = one_found
