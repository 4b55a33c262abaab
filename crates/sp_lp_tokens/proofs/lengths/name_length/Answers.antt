use Rattle.std.proofs.Common.{arith}
use Rattle.sp_lp_tokens.proofs.NameFrontsLemmas.{name_found, name_not_found}
use Rattle.sp_lp_tokens.proofs.lengths.name_length.Goals as goal

pub returns-then-begins_name : goal.returns-then-begins_name
returns-then-begins_name c = name_found c.args.bytes.now c.name_run.result (omega arith) (cc) c.name_run.ensures

pub returns-else-begins_name : goal.returns-else-begins_name
returns-else-begins_name c = name_not_found c.args.bytes.now (omega arith) (cc)
