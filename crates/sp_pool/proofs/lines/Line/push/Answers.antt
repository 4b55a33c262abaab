-- The new member is the last one.
use Rattle.std.proofs.Common.{◌∙◌, ap, sym, ◌∷◌, [], ◌++◌}
use Rattle.sp_pool.specs.InnerLines.{Row, Keyed, has_key}
use Rattle.sp_pool.proofs.LineLemmas.{pushed_first, linked_walk, walked, links_some}
use Rattle.sp_pool.proofs.lines.Line.push.Goals as goal

pub invariant_of-self : goal.invariant_of-self
invariant_of-self c = linked_walk _ _ _ _ (pushed_first _ _ _ _ _ _ _ c.insert_reserved-key.result c.args.member.now c.self.invariant c.insert_reserved-key.ensures.was_vacant c.insert_reserved-key.ensures.updates c.insert_reserved-key.ensures.len c.link_forward.ensures.nodes c.link_forward.ensures.first)

pub returns-clause-items : goal.returns-clause-items
returns-clause-items c =
    walked _ _ _ _ (pushed_first _ _ _ _ _ _ _ c.insert_reserved-key.result c.args.member.now c.self.invariant c.insert_reserved-key.ensures.was_vacant c.insert_reserved-key.ensures.updates c.insert_reserved-key.ensures.len c.link_forward.ensures.nodes c.link_forward.ensures.first)
    ∙ ap (λ (r : Row). r.items ++ (let q : Keyed = (c.insert_reserved-key.result, c.args.member.now) in q) ∷ []) c.self.view_is

pub returns-clause-fresh : goal.returns-clause-fresh
returns-clause-fresh c = ap (λ (r : Row). has_key c.insert_reserved-key.result r.items) (sym c.self.view_is) ∙ links_some c.self.inside.nodes _ _ _ c.insert_reserved-key.result c.self.invariant.links c.insert_reserved-key.ensures.was_vacant
