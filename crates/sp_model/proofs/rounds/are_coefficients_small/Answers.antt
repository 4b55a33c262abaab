use Rattle.std.proofs.Common.{ap, arith}
use Rattle.std.proofs.lemmas.List.{drop_all}
use Rattle.sp_model.specs.Rounds.{coefficient_size}
use Rattle.sp_model.proofs.SumLemmas.{drop_item}
use Rattle.sp_model.proofs.rounds.are_coefficients_small.Goals as goal

pub returns-in-None : goal.returns-in-None
returns-in-None c =
    let d = ap coefficient_size (drop_item c.args.terms.now c.loop-term.term-index c.term-item.result c.loop-term-test.true c.term-item.is) in
    (λ e. cc, λ h. absurd (omega (arith, d, c.in-None.ensures)))
