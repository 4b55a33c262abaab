use Rattle.sp_model.proofs.LawLemmas.{tested}
use Rattle.sp_model.proofs.ModelLemmas.{feasible_from_test, test_from_feasible}
use Rattle.sp_model.proofs.model_laws.feasible_is_tested.Goals as goal

pub returns-clause-within : goal.returns-clause-within
returns-clause-within c = λ m x l w. (λ t. feasible_from_test m x l w t, λ f. test_from_feasible m x f)

pub returns-clause-exact : goal.returns-clause-exact
returns-clause-exact c = tested
