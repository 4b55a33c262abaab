use Rattle.std.proofs.Common.{arith, ◌<◌}
use Rattle.sp_lp.proofs.OtherLemmas.{behind_is}
use Rattle.sp_lp.proofs.other_tokens.line_before.Goals as goal

pub returns-else-place-eq0 : goal.returns-else-place-eq0
returns-else-place-eq0 c = let p : 0 < c.args.place = omega arith in λ source. behind_is source c.args.list.now c.args.place c.index-list-place.result c.requires p
