use Rattle.sp_mps.proofs.AnswerLemmas.{one_draft, one_refusal, apart}
use Rattle.sp_mps.proofs.mps_laws.files_have_one_answer.Goals as goal

pub returns : goal.returns
returns c = record { draft = one_draft; refusal = one_refusal; apart = apart }
