use Rattle.sp_dual.specs.Lists.{zero_list}
use Rattle.sp_bound.proofs.StatedLemmas.{stated_are, stated_few, stated_first}
use Rattle.sp_bound.proofs.laws.stated_lists_are_lists.Goals as goal

pub returns : goal.returns
returns c = record { each = stated_are; first = λ m. stated_first m zero_list; few = stated_few }
