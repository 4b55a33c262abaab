use Rattle.sp_words.proofs.PieceLemmas.{spellings_join, spellings_part, spellings_empty}
use Rattle.sp_words.proofs.laws.spellings_are_pieces.Goals as goal

pub returns-clause-joined : goal.returns-clause-joined
returns-clause-joined c = spellings_join

pub returns-clause-parted : goal.returns-clause-parted
returns-clause-parted c = spellings_part

pub returns-clause-empty : goal.returns-clause-empty
returns-clause-empty c = spellings_empty
