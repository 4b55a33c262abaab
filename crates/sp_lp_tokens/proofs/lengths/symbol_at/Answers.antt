use Rattle.std.proofs.Common.{arith}
use Rattle.sp_lp_tokens.proofs.SymbolFrontsLemmas.{symbol_found, head_none, head_spelled, head_longest}
use Rattle.sp_lp_tokens.proofs.lengths.symbol_at.Goals as goal

pub returns-in-len1-up-clause-none : goal.returns-in-len1-up-clause-none
returns-in-len1-up-clause-none c = head_none _ _ (symbol_found c.args.bytes.now c.symbol_from.result (omega arith) c.symbol_from.ensures)

pub returns-in-len1-up-clause-spelled : goal.returns-in-len1-up-clause-spelled
returns-in-len1-up-clause-spelled c = head_spelled _ _ (symbol_found c.args.bytes.now c.symbol_from.result (omega arith) c.symbol_from.ensures)

pub returns-in-len1-up-clause-longest : goal.returns-in-len1-up-clause-longest
returns-in-len1-up-clause-longest c = head_longest _ _ (symbol_found c.args.bytes.now c.symbol_from.result (omega arith) c.symbol_from.ensures)
