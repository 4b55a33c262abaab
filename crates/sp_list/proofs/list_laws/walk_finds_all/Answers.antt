use Rattle.sp_list.proofs.FoundLemmas.{finds_all, finds_enough}
use Rattle.sp_list.proofs.list_laws.walk_finds_all.Goals as goal

pub returns-clause-all : goal.returns-clause-all
returns-clause-all c = λ m l. finds_all m (record { members = λ x. c.feasible_points_are_all.ensures.all m x l; rising = c.feasible_points_are_all.ensures.rising m })

pub returns-clause-enough : goal.returns-clause-enough
returns-clause-enough c = λ m cut l. finds_enough m (record { members = λ x. c.feasible_points_are_all.ensures.all m x l; rising = c.feasible_points_are_all.ensures.rising m }) cut
