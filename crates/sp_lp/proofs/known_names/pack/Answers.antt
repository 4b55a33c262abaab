use Rattle.sp_lp.proofs.GuessLemmas.{key_fits}
use Rattle.sp_lp.proofs.known_names.pack.Goals as goal

pub returns-clause-small : goal.returns-clause-small
returns-clause-small c = key_fits c.args.name.now c.loop-place.place c.loop-place.key c.loop-place.invariant.key c.loop-place.invariant.bytes c.loop-place.invariant.few
