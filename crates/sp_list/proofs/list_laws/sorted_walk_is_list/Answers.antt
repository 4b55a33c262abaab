use Rattle.sp_list.proofs.WalkLemmas.{walk_is_list}
use Rattle.sp_list.proofs.list_laws.sorted_walk_is_list.Goals as goal

pub returns : goal.returns
returns c = λ m cut xs l. walk_is_list m (record { members = λ x. c.feasible_points_are_all.ensures.all m x l; rising = c.feasible_points_are_all.ensures.rising m }) cut xs
