use Rattle.sp_lp.proofs.FileLemmas.{some_answer}
use Rattle.sp_lp.proofs.lp_laws.files_have_some_answer.Goals as goal

pub returns : goal.returns
returns c = λ bytes.
    let t = c.files_have_tokens.ensures bytes in
    some_answer (record { accepted = c.readers_tell_files.ensures.accepted; unfinished = c.readers_tell_files.ensures.unfinished; begun = c.readers_tell_files.ensures.begun; refused = c.readers_tell_files.ensures.refused; front = c.fronts_begin_files.ensures.accepted; one = c.files_mean_one_draft.ensures }) bytes t.0 t.1 t.2
