use Rattle.sp_list.proofs.JoinLemmas.{join}
use Rattle.sp_list.proofs.list_laws.parts_join.Goals as goal

pub returns : goal.returns
returns c = join
