use Rattle.std.proofs.Common.{All, map, sym, ap, ◌∙◌, subst, length, arith}
use Rattle.sp_model.specs.Rounds.{closed}
use Rattle.sp_model.specs.Stated.{IsClosedRange}
use Rattle.sp_model.proofs.RoundLemmas.{length_rounded, root_is}
use Rattle.sp_model.proofs.StatedLemmas.{length_stated}
use Rattle.sp_model.proofs.bound_rules.close.Goals as goal

pub open_variable-requires : goal.open_variable-requires
open_variable-requires c =
    omega (arith, ap length c.requires.rounded, length_rounded c.args.parts.now, length_stated c.args.parts.now c.requires.lawful.variables.paired, c.requires.lawful.variables.few)

pub returns-in-Ok-clause-closed : goal.returns-in-Ok-clause-closed
returns-in-Ok-clause-closed c = (
  c.in-Ok.ensures ∙ ap (map closed) c.requires.rounded ∙ sym (root_is c.args.parts.now),
  record { bounds = c.requires.lawful; closed = subst (All IsClosedRange) c.requires.rounded c.in_default.ensures },
)
