use Rattle.sp_lp_tokens.proofs.RestLemmas.{whole_rest}
use Rattle.sp_lp_tokens.proofs.reading.Rest.whole.Goals as goal

pub returns-clause-rest : goal.returns-clause-rest
returns-clause-rest c = whole_rest
