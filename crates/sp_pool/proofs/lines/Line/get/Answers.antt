-- The key's node, if it has one, is a member's.
use Rattle.std.proofs.Common.{sym, ap, ◌∙◌}
use Rattle.sp_pool.specs.InnerLines.{Row, member_at}
use Rattle.sp_pool.proofs.LineLemmas.{looked_up, not_found}
use Rattle.sp_pool.proofs.lines.Line.get.Goals as goal

pub returns-in-Some : goal.returns-in-Some
returns-in-Some c = looked_up _ _ _ _ c.args.key c.in-Some.node.now c.self.invariant (sym c.in-Some.ensures) ∙ ap (λ (r : Row). member_at c.args.key r.items) c.self.view_is

pub returns-in-None : goal.returns-in-None
returns-in-None c = not_found _ _ _ _ c.args.key c.self.invariant (sym c.in-None.ensures) ∙ ap (λ (r : Row). member_at c.args.key r.items) c.self.view_is
