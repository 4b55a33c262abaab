use Rattle.sp_decimal.proofs.OneFormLemmas.{one_form}
use Rattle.sp_decimal.proofs.printing.values_have_one_text.Goals as goal

pub returns : goal.returns
returns c = one_form
