use Rattle.std.proofs.Common.{ap, sym, ◌∙◌, refl, take}
use Rattle.sp_lp_tokens.specs.SeenTokens.{all_seen}
use Rattle.sp_lp_grammar.specs.InnerCursor.{line_behind}
use Rattle.sp_lp.specs.Refusals.{huge_stands}
use Rattle.sp_lp.proofs.StandingLemmas.{from_place}
use Rattle.sp_lp.proofs.standing.huge_stands_at.Goals as goal

pub returns : goal.returns
returns c =
    c.huge_stands.ensures (line_behind 0 (take c.args.place (all_seen c.args.source.now c.args.list.now)))
    ∙ rw c.rest_of.ensures (sym (ap huge_stands (from_place c.args.source.now c.args.list.now c.args.place (line_behind 0 (take c.args.place (all_seen c.args.source.now c.args.list.now))) refl)))
