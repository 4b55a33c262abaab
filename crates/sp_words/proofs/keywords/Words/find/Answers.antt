use Rattle.sp_words.specs.Words.{rows_in}
use Rattle.sp_words.proofs.RowLemmas.{code_or_row}
use Rattle.sp_words.proofs.keywords.Words.find.Goals as goal

pub returns-clause-row : goal.returns-clause-row
unfolding rows_in
returns-clause-row g c =
    rw c.code_among.ensures (λ code. code_or_row c.args.word.now (rows_in c.args.self.now) code c.args.self.now.kept.table.apart)
