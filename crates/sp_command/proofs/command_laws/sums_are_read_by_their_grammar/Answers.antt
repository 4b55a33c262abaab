use Rattle.sp_command.proofs.SumLemmas.{sum-by-grammar}
use Rattle.sp_command.proofs.command_laws.sums_are_read_by_their_grammar.Goals as goal

pub returns : goal.returns
returns c = sum-by-grammar
