use Rattle.sp_lp_tokens.proofs.OneListLemmas.{one_list}
use Rattle.sp_lp_tokens.proofs.token_laws.tokens_are_unique.Goals as goal

pub returns : goal.returns
returns c = λ source ts us a b g h. let same = one_list source ts us 0 0 a b g h in (same.tokens, same.endings)
