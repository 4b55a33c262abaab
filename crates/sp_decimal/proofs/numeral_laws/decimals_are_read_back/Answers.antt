use Rattle.sp_decimal.proofs.ReadBackLemmas.{read_back}
use Rattle.sp_decimal.proofs.numeral_laws.decimals_are_read_back.Goals as goal

pub returns : goal.returns
returns c = read_back
