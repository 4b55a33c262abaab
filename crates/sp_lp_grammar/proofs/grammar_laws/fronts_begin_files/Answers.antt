use Rattle.sp_lp_grammar.proofs.FrontLemmas.{accepted_front, front_front}
use Rattle.sp_lp_grammar.proofs.grammar_laws.fronts_begin_files.Goals as goal

pub returns : goal.returns
returns c = record { accepted = accepted_front; begun = front_front }
