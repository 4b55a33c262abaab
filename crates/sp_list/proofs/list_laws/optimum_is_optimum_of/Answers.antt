use Rattle.sp_list.proofs.OptimumLemmas.{optimum_iff}
use Rattle.sp_list.proofs.list_laws.optimum_is_optimum_of.Goals as goal

pub returns : goal.returns
returns c = λ m best l. optimum_iff m (record { members = λ x. c.feasible_points_are_all.ensures.all m x l; rising = c.feasible_points_are_all.ensures.rising m }) best
