use Rattle.std.proofs.Common.{ap, sym, ◌∙◌}
use Rattle.sp_lp.specs.Refusals.{set_kind_stands}
use Rattle.sp_lp.proofs.StandingLemmas.{from_place}
use Rattle.sp_lp.proofs.standing.set_kind_stands_at.Goals as goal

pub returns : goal.returns
returns c =
    c.set_kind_stands.ensures
    ∙ rw c.rest_of.ensures (sym (ap set_kind_stands (from_place c.args.source.now c.args.list.now c.args.place c.line_before-before.result (c.line_before-before.ensures c.args.source.now))))
