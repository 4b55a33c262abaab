use Rattle.std.proofs.Common.{subst}
use Rattle.sp_lp.specs.InnerGuesses.{IsGuessOf}
use Rattle.sp_lp.proofs.known_names.KnownNames.guessed.Goals as goal

pub returns-in-Some : goal.returns-in-Some
returns-in-Some c =
    c.guess_in.ensures c.args.name.now c.in-Some.place c.in_ok-key.ensures.bytes
    (subst (λ key. IsGuessOf key c.in-Some.place c.guess_in.result) c.in_ok-key.ensures.key c.in-Some.ensures)
