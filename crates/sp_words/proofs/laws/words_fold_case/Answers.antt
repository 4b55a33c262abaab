use Rattle.sp_words.proofs.FoldLemmas.{same_or_zip}
use Rattle.sp_words.proofs.laws.words_fold_case.Goals as goal

pub returns : goal.returns
returns c = same_or_zip
