use Rattle.sp_mps.proofs.AnswerLemmas.{some_answer}
use Rattle.sp_mps.proofs.mps_laws.files_have_some_answer.Goals as goal

pub returns : goal.returns
returns c = some_answer
