use Rattle.sp_model.proofs.LawLemmas.{long_root, short_root}
use Rattle.sp_model.proofs.RoundLemmas.{length_root}
use Rattle.sp_model.proofs.StatedLemmas.{length_stated}
use Rattle.sp_model.proofs.model_laws.root_is_short.Goals as goal

pub returns-clause-long : goal.returns-clause-long
returns-clause-long c = λ m v. length_root m v.paired

pub returns-clause-stated : goal.returns-clause-stated
returns-clause-stated c = λ m v. length_stated m v.paired

pub returns-clause-lawful : goal.returns-clause-lawful
returns-clause-lawful c = long_root

pub returns-clause-short : goal.returns-clause-short
returns-clause-short c = short_root
