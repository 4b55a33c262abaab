use Rattle.sp_list.proofs.OptimumLemmas.{within_iff}
use Rattle.sp_list.proofs.list_laws.list_within_is_list_within_of.Goals as goal

pub returns : goal.returns
returns c = λ m gaps xs l. within_iff m (record { members = λ x. c.feasible_points_are_all.ensures.all m x l; rising = c.feasible_points_are_all.ensures.rising m }) gaps xs
