use Rattle.std.proofs.Common.{ap, sym, ◌∙◌}
use Rattle.sp_lp.specs.Refusals.{name_stands}
use Rattle.sp_lp.proofs.StandingLemmas.{from_place}
use Rattle.sp_lp.proofs.standing.name_stands_at.Goals as goal

pub returns : goal.returns
returns c =
    c.name_stands.ensures
    ∙ rw c.rest_of.ensures (sym (ap name_stands (from_place c.args.source.now c.args.list.now c.args.place c.line_before-before.result (c.line_before-before.ensures c.args.source.now))))
