use Rattle.std.proofs.Common.{ap, sym, ◌∙◌}
use Rattle.std.specs.List.{drop-map}
use Rattle.sp_lp_tokens.specs.SeenTokens.{seen}
use Rattle.sp_lp.specs.Refusals.{foreign_stands}
use Rattle.sp_lp.proofs.standing.foreign_stands_at.Goals as goal

pub returns : goal.returns
returns c = λ source. c.foreign_stands.ensures source ∙ rw c.rest_of.ensures (sym (ap foreign_stands (drop-map (seen source) c.args.place c.args.list.now)))
