use Rattle.sp_words.proofs.TestLemmas.{one_place}
use Rattle.sp_words.proofs.laws.words_have_one_row.Goals as goal

pub returns : goal.returns
returns c = one_place
