use Rattle.sp_decimal.proofs.ReadingLemmas.{written}
use Rattle.sp_decimal.proofs.numeral_laws.written_is_exact.Goals as goal

pub returns : goal.returns
returns c = written
