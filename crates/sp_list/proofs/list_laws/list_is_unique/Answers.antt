use Rattle.sp_list.proofs.ListLemmas.{unique}
use Rattle.sp_list.proofs.list_laws.list_is_unique.Goals as goal

pub returns : goal.returns
returns c = unique
