use Rattle.sp_words.proofs.TestLemmas.{test_or_table}
use Rattle.sp_words.proofs.laws.tables_are_tested.Goals as goal

pub returns : goal.returns
returns c = test_or_table
