use Rattle.sp_list.proofs.KeptLemmas.{enough_from_set}
use Rattle.sp_list.proofs.list_laws.set_is_enough.Goals as goal

pub returns : goal.returns
returns c = λ m cut found l. enough_from_set m (record { each = λ x. c.feasible_is_tested.ensures.exact m x l }) cut found
