use Rattle.sp_base.proofs.WritingLemmas.{writes_nothing, both_written, one_failed}
use Rattle.sp_base.proofs.writing_laws.texts_join.Goals as goal

pub returns-clause-nothing : goal.returns-clause-nothing
returns-clause-nothing c = writes_nothing

pub returns-clause-both : goal.returns-clause-both
returns-clause-both c = both_written

pub returns-clause-fails : goal.returns-clause-fails
returns-clause-fails c = one_failed
