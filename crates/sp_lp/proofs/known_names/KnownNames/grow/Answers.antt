use Rattle.std.proofs.Common.{rules}
use Rattle.std.proofs.lemmas.List.Elements.{All-replicate}
use Rattle.sp_lp.specs.InnerGuesses.{IsTrueOf}
use Rattle.sp_lp.proofs.GuessLemmas.{free_true}
use Rattle.sp_lp.proofs.known_names.KnownNames.grow.Goals as goal

pub invariant_of-self : goal.invariant_of-self
invariant_of-self c =
    rw (c.in-Ok.ensures.items_if_clones_equal (λ y same. search rules))
    (All-replicate (IsTrueOf c.self.inside.names) _ _ (free_true c.self.inside.names))
