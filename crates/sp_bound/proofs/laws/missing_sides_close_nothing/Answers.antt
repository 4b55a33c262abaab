use Rattle.sp_bound.proofs.IdleLemmas.{idle_closes}
use Rattle.sp_bound.proofs.ReadyLemmas.{all_rising}
use Rattle.sp_bound.proofs.laws.missing_sides_close_nothing.Goals as goal

pub returns : goal.returns
returns c = λ m b t l lawful formed inside idle.
    idle_closes (record { law = c.quotients_are_exact.ensures.ceiling }) m b t l lawful inside formed.positive (all_rising m b lawful inside) idle
