use Rattle.std.proofs.Common.{◌∙◌, inr, ⊎_elim, inl, ap, sym, map, drop, Some}
use Rattle.std.specs.Prelude.{option_and_then}
use Rattle.sp_args.specs.InnerReading.{request_at}
use Rattle.sp_args.proofs.DashLemmas.{request_is}
use Rattle.sp_args.proofs.reading.read_texts.Goals as goal

pub returns-in-Err-clause-value : goal.returns-in-Err-clause-value
returns-in-Err-clause-value c =
    let rest = drop 1 (map (λ s. s.now) c.args.words.now) in
    ⊎_elim (λ m. inl m) (λ n. inr (request_is rest ∙ ap (option_and_then request_at) n)) c.in-Err.ensures

pub returns-in-None-clause-value : goal.returns-in-None-clause-value
returns-in-None-clause-value c =
    let rest = drop 1 (map (λ s. s.now) c.args.words.now) in
    inr (request_is rest ∙ ap (option_and_then request_at) c.in-Ok.ensures ∙ c.in-None.ensures.value)

pub returns-in-Ok-copied-clause-value : goal.returns-in-Ok-copied-clause-value
returns-in-Ok-copied-clause-value c =
    let rest = drop 1 (map (λ s. s.now) c.args.words.now) in
    request_is rest ∙ ap (option_and_then request_at) c.in-Ok.ensures ∙ c.in-Some.ensures.value ∙ ap Some (sym c.in-Ok-copied.ensures)
