use Rattle.std.proofs.Common.{◌<◌, length, subst, sym, arith}
use Rattle.sp_lp.specs.InnerGuesses.{IsTrueOf}
use Rattle.sp_lp.proofs.GuessLemmas.{free_true}
use Rattle.sp_lp.proofs.known_names.KnownNames.guess_in.Goals as goal

pub returns-then-slot-len : goal.returns-then-slot-len
returns-then-slot-len c =
    let there : c.args.slot < length c.self.inside.guesses.items = omega (arith, c.if-slot-len.true, c.len.ensures) in
    rw (← c.self.view_is) (subst (IsTrueOf c.self.inside.names) (sym c.index.ensures) (c.self.invariant c.args.slot c.index.result.now there))

pub returns-else-slot-len : goal.returns-else-slot-len
returns-else-slot-len c = free_true c.args.self.now
