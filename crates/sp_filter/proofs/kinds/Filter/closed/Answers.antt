use Rattle.std.proofs.Common.{◌∙◌, sym}
use Rattle.sp_filter.proofs.ClosingLemmas.{closed_fails, closed_at}
use Rattle.sp_filter.proofs.kinds.Filter.closed.Goals as goal

pub returns-clause-sound : goal.returns-clause-sound
returns-clause-sound c = λ t x w. closed_fails c.args.self.now c.args.b.now x (sym c.is_missed.ensures ∙ t) w

pub returns-clause-point : goal.returns-clause-point
returns-clause-point c = λ x e. c.is_missed.ensures ∙ closed_at c.args.self.now c.args.b.now x e
