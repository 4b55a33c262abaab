use Rattle.std.proofs.Common.{sym, ◌∙◌}
use Rattle.sp_lp_words.proofs.FirstLemmas.{plain_name}
use Rattle.sp_lp_words.proofs.tables.Tables.name_class.Goals as goal

pub returns-then-not-may_be_word : goal.returns-then-not-may_be_word
returns-then-not-may_be_word c = plain_name c.args.first c.args.word.now (sym c.may_be_word.ensures ∙ c.if-not-may_be_word.true)
