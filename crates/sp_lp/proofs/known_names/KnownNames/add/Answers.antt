use Rattle.std.proofs.Common.{Some, ap, sym, ◌∙◌}
use Rattle.sp_lp.proofs.GuessLemmas.{true_of_more, found_put}
use Rattle.sp_lp.proofs.known_names.KnownNames.add.Goals as goal

pub invariant_of-self : goal.invariant_of-self
invariant_of-self c = rw c.in-Ok.ensures.names (true_of_more c.self.inside.names c.args.name.now c.self.inside.guesses.items c.self.invariant)

pub note-requires : goal.note-requires
note-requires c = rw c.in-Ok.ensures.names (found_put c.self.inside.names c.args.name.now ∙ ap Some (sym c.in-Ok.ensures.place))

pub invariant_of-self-in-Err : goal.invariant_of-self-in-Err
invariant_of-self-in-Err c = rw c.in-Err.ensures.err c.self.invariant
