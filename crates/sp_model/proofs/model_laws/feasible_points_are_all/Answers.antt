use Rattle.sp_model.proofs.LawLemmas.{contains_feasible, feasible_rise}
use Rattle.sp_model.proofs.model_laws.feasible_points_are_all.Goals as goal

pub returns-clause-all : goal.returns-clause-all
returns-clause-all c = contains_feasible

pub returns-clause-rising : goal.returns-clause-rising
returns-clause-rising c = feasible_rise
