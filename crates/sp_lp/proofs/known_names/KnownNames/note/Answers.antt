use Rattle.std.proofs.lemmas.List.Elements.{All-set}
use Rattle.sp_lp.specs.InnerGuesses.{IsTrueOf}
use Rattle.sp_lp.proofs.GuessLemmas.{noted}
use Rattle.sp_lp.proofs.known_names.KnownNames.note.Goals as goal

pub invariant_of-self : goal.invariant_of-self
invariant_of-self c =
    let names = c.self.inside.names in
    All-set (IsTrueOf names) c.self.inside.guesses.items c.slot_for-slot.result c.in-Some-guess_of.guess
    (noted names c.args.name.now c.in-Some.key c.args.id c.in-Some-guess_of.guess c.in-Some.ensures.bytes c.in-Some.ensures.key c.in-Some-guess_of.ensures (rw (c.self.view_is, c.grow.ensures) c.requires))
    c.self.invariant
