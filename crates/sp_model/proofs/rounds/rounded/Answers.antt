use Rattle.std.proofs.Common.{◌≡◌, ℕ, Bool, List, length, map, sym, ap, ◌∙◌, arith}
use Rattle.std.proofs.lemmas.List.{take_at}
use Rattle.sp_model.specs.InnerRounds.{marked}
use Rattle.sp_model.specs.Rounds.{takes_part}
use Rattle.sp_model.specs.Stated.{Core, is_semi}
use Rattle.sp_model.proofs.RoundLemmas.{rounds_made}
use Rattle.sp_model.proofs.StatedLemmas.{length_stated}
use Rattle.sp_model.proofs.rounds.rounded.Goals as goal

pub make_rounds-requires-clause-taken : goal.make_rounds-requires-clause-taken
make_rounds-requires-clause-taken c =
    let long : c.len-count.result ≡ length c.as_mut_slice.result.now =
    c.len-count.ensures ∙ sym (length_stated c.args.parts.now c.requires.paired) ∙ sym (ap length (c.as_mut_slice.ensures.value ∙ c.in_ok-bounds.ensures)) in
    c.as_slice-2.ensures.value ∙ c.in_ok-taken.ensures ∙ ap (λ (n : ℕ). map (takes_part n) c.as_slice-rows.result.now) long

pub make_rounds-requires-clause-marked : goal.make_rounds-requires-clause-marked
make_rounds-requires-clause-marked c =
    let long : c.len-count.result ≡ length c.as_mut_slice.result.now =
    c.len-count.ensures ∙ sym (length_stated c.args.parts.now c.requires.paired) ∙ sym (ap length (c.as_mut_slice.ensures.value ∙ c.in_ok-bounds.ensures)) in
    ap length c.as_slice-3.ensures.value ∙ c.in_ok-marks.ensures.long ∙ long

pub returns : goal.returns
returns c =
    let bounds = c.as_mut_slice.ensures.value ∙ c.in_ok-bounds.ensures in
    let long : length c.make_rounds.new.bounds ≡ c.in_ok-bounds.bounds.len =
    c.make_rounds.auto.bounds ∙ ap length c.as_mut_slice.ensures.value ∙ sym c.in_ok-bounds.bounds.ok.0 in
    take_at c.make_rounds.new.bounds _ c.in_ok-bounds.bounds.len long
    ∙ rounds_made c.args.parts.now c.as_slice-3.result.now c.as_slice-rows.result.now c.as_mut_slice.result.now c.make_rounds.new.bounds
    (λ j. ap (λ (marks : List Bool). marked marks j) c.as_slice-3.ensures.value ∙ c.in_ok-marks.ensures.marked j ∙ ap (λ (cores : List Core). is_semi cores j) c.as_slice.ensures)
    c.as_slice-rows.ensures
    bounds
    c.in_ok-make_rounds.ensures
