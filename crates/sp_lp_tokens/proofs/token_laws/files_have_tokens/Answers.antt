use Rattle.std.proofs.Common.{length, arith}
use Rattle.sp_lp_tokens.proofs.SomeListLemmas.{tokens_from}
use Rattle.sp_lp_tokens.proofs.token_laws.files_have_tokens.Goals as goal

pub returns : goal.returns
returns c = λ source. tokens_from c.numerals_have_one_reading.ensures.says source (length source) 0 0 (omega arith) (omega arith)
