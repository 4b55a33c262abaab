-- Each round goes on to the next node.
use Rattle.std.proofs.Common.{◌≡◌, ◌++◌, ◌-◌, ◌∙◌, ap, sym, arith, append-nil, Vec, Global, List}
use Rattle.slab.specs.Slab.{slab_len}
use Rattle.sp_pool.specs.declared.members.Member.{Member}
use Rattle.sp_pool.specs.InnerLines.{Row, members_in, walk}
use Rattle.sp_pool.proofs.LineLemmas.{walked_pushed, walked_ended}
use Rattle.sp_pool.proofs.lines.Line.members.Goals as goal
use Rattle.sp_pool.proofs.lines.Line.members.Goals.{in-Some+in_ok-push, in_default}

pub loop-init : goal.loop-init
loop-init c =
    let len : c.len-end.result - 0 ≡ slab_len c.self.inside.nodes = omega (arith, c.len-end.ensures) in
    ap (λ (xs : List Member). xs ++ members_in (walk c.self.inside.nodes (c.len-end.result - 0) c.self.inside.first)) c.new-found.ensures.items
    ∙ ap (λ n. members_in (walk c.self.inside.nodes n c.self.inside.first)) len

pub loop-preserved : goal.loop-preserved
loop-preserved c =
    elim c.match-node_at.branch [
      | in-Some+in_ok-push w ↦ walked_pushed c.self.inside.nodes c.len-end.result c.loop.counter c.loop.next c.match-node_at.next w.in-Some.node.now c.loop.found.items c.match-node_at.found.items _ (omega arith) (sym w.in-Some.ensures) w.next-is (ap (λ (v : Vec Member Global). v.items) w.found-is ∙ w.in_ok-push.ensures.items) c.loop.invariant
      | in_default w ↦ walked_ended c.self.inside.nodes c.len-end.result c.loop.counter c.loop.next c.match-node_at.next c.loop.found.items c.match-node_at.found.items _ (sym w.in_default.ensures) w.next-is (ap (λ (v : Vec Member Global). v.items) w.found-is) c.loop.invariant
    ]

pub returns : goal.returns
returns c =
    let past : c.len-end.result - c.loop.counter ≡ 0 = omega arith in
    sym (append-nil c.loop.found.items) ∙ sym (ap (λ n. c.loop.found.items ++ members_in (walk c.self.inside.nodes n c.loop.next)) past) ∙ c.loop.invariant ∙ ap (λ (r : Row). members_in r.items) c.self.view_is
