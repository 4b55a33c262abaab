use Rattle.sp_base.proofs.WritingLemmas.{written_none, piece_written, piece_failed, written_all}
use Rattle.sp_base.proofs.writing_laws.texts_grow.Goals as goal

pub returns-clause-begins : goal.returns-clause-begins
returns-clause-begins c = written_none

pub returns-clause-goes_on : goal.returns-clause-goes_on
returns-clause-goes_on c = piece_written

pub returns-clause-fails : goal.returns-clause-fails
returns-clause-fails c = piece_failed

pub returns-clause-ends : goal.returns-clause-ends
returns-clause-ends c = written_all
