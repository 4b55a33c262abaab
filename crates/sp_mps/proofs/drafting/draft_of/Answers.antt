use Rattle.sp_mps.proofs.DraftLemmas.{draft_made}
use Rattle.sp_mps.proofs.drafting.draft_of.Goals as goal

pub returns : goal.returns
returns c = draft_made c.args.reader c.in_ok-vars.vars.items c.in_ok-parts.parts c.joined.result c.in_ok-vars.ensures c.in_ok-parts.ensures c.joined.ensures
