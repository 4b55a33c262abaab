use Rattle.sp_lp_grammar.proofs.FrontLemmas.{one_place}
use Rattle.sp_lp_grammar.proofs.grammar_laws.faults_have_one_place.Goals as goal

pub returns : goal.returns
returns c = one_place
