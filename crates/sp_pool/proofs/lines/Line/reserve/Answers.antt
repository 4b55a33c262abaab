-- More capacity changes no link.
use Rattle.std.proofs.Common.{◌∙◌, ap}
use Rattle.sp_pool.specs.InnerLines.{Row}
use Rattle.sp_pool.proofs.LineLemmas.{same_linked, linked_walk, walked}
use Rattle.sp_pool.proofs.lines.Line.reserve.Goals as goal

pub invariant_of-self : goal.invariant_of-self
invariant_of-self c = linked_walk _ _ _ _ (same_linked _ _ _ _ _ c.reserve.ensures.rest_kept c.self.invariant)

pub returns-clause-items : goal.returns-clause-items
returns-clause-items c = walked _ _ _ _ (same_linked _ _ _ _ _ c.reserve.ensures.rest_kept c.self.invariant) ∙ ap (λ (r : Row). r.items) c.self.view_is
