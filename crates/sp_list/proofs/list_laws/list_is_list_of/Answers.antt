use Rattle.sp_list.proofs.ListOfLemmas.{list_iff}
use Rattle.sp_list.proofs.list_laws.list_is_list_of.Goals as goal

pub returns : goal.returns
returns c = λ m cut xs l. list_iff m (record { members = λ x. c.feasible_points_are_all.ensures.all m x l; rising = c.feasible_points_are_all.ensures.rising m }) cut xs
