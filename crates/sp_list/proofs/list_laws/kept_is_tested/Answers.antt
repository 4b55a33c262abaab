use Rattle.sp_list.proofs.KeptLemmas.{kept_test}
use Rattle.sp_list.proofs.list_laws.kept_is_tested.Goals as goal

pub returns : goal.returns
returns c = λ m cut x l. kept_test m (record { each = λ y. c.feasible_is_tested.ensures.exact m y l }) cut x
