-- What stood beside the member is linked, and without one nothing changes.
use Rattle.std.proofs.Common.{◌∙◌, ap, sym}
use Rattle.sp_pool.specs.InnerLines.{Row, walk, without_key}
use Rattle.slab.specs.Slab.{Slab, slab_len}
use Rattle.sp_pool.specs.declared.nodes.Node.{Node}
use Rattle.sp_pool.proofs.LineLemmas.{removed_ends, linked_walk, walked, not_removed}
use Rattle.sp_pool.proofs.lines.Line.remove.Goals as goal

pub invariant_of-self : goal.invariant_of-self
invariant_of-self c = linked_walk _ _ _ _ (removed_ends _ _ _ _ _ _ _ _ _ c.args.key c.in-Some.node c.self.invariant (sym c.in-Some.ensures.value) c.in-Some.ensures.updates c.in-Some.ensures.len c.link_forward.ensures.nodes c.link_back.ensures.nodes c.link_forward.ensures.first c.link_back.ensures.last)

pub returns-in-Some-clause-items : goal.returns-in-Some-clause-items
returns-in-Some-clause-items c =
    walked _ _ _ _ (removed_ends _ _ _ _ _ _ _ _ _ c.args.key c.in-Some.node c.self.invariant (sym c.in-Some.ensures.value) c.in-Some.ensures.updates c.in-Some.ensures.len c.link_forward.ensures.nodes c.link_back.ensures.nodes c.link_forward.ensures.first c.link_back.ensures.last)
    ∙ ap (λ (r : Row). without_key c.args.key r.items) c.self.view_is

pub returns-in_default-clause-items : goal.returns-in_default-clause-items
returns-in_default-clause-items c =
    let same = c.in_default.ensures.absent in
    ap (λ (s : Slab Node). walk s (slab_len s) c.self.inside.first) same
    ∙ sym (not_removed c.self.inside.nodes _ _ _ c.args.key c.self.invariant (sym c.in_default.ensures.value)) ∙ ap (λ (r : Row). without_key c.args.key r.items) c.self.view_is
