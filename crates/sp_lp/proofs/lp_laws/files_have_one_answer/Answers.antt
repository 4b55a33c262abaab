use Rattle.sp_lp.proofs.FileLemmas.{OneEach, one_draft, one_answer, not_draft}
use Rattle.sp_lp.proofs.lp_laws.files_have_one_answer.Goals as goal

pub returns : goal.returns
returns c =
    let one : OneEach = record { lists = c.tokens_are_unique.ensures; draft = c.files_mean_one_draft.ensures; place = c.faults_have_one_place.ensures } in
    record { draft = one_draft one; refusal = one_answer one; apart = not_draft one }
