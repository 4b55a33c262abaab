use Rattle.sp_mps.proofs.EndLemmas.{same_draft, same_refusal}
use Rattle.sp_mps.proofs.mps_laws.endata_ends_files.Goals as goal

pub returns : goal.returns
returns c = record { draft = same_draft; refusal = same_refusal }
