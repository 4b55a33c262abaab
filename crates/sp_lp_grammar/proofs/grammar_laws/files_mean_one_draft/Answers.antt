use Rattle.sp_lp_grammar.proofs.FrontLemmas.{one_draft}
use Rattle.sp_lp_grammar.proofs.grammar_laws.files_mean_one_draft.Goals as goal

pub returns : goal.returns
returns c = one_draft
