use Rattle.std.proofs.Common.{ap, sym, ◌∙◌}
use Rattle.sp_lp.specs.Refusals.{cuts_stand}
use Rattle.sp_lp.proofs.StandingLemmas.{from_place}
use Rattle.sp_lp.proofs.standing.cuts_stand_at.Goals as goal

pub returns : goal.returns
returns c =
    c.cuts_stand.ensures
    ∙ rw c.rest_of.ensures (sym (ap cuts_stand (from_place c.args.source.now c.args.list.now c.args.place c.line_before-before.result (c.line_before-before.ensures c.args.source.now))))
