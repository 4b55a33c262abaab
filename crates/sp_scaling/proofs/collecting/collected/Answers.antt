use Rattle.std.proofs.Common.{◌≡◌, List, ◌∙◌, ap, pos}
use Rattle.sp_model.specs.Sums.{Term}
use Rattle.sp_scaling.specs.Scaling.{scaled, size_of, collected}
use Rattle.sp_scaling.specs.Merging.{merged}
use Rattle.sp_scaling.proofs.MergeLemmas.{merged-collected, collected-permuted, turned-plain}
use Rattle.sp_scaling.proofs.ScaleLemmas.{size_permuted}
use Rattle.sp_scaling.proofs.collecting.collected.Goals as goal

pub merged-requires : goal.merged-requires
merged-requires c =
    let p = size_permuted c.in_ok-list.list.items c.sort.new.terms.items c.sort.ensures.same in
    let e : size_of c.sort.new.terms.items ≡ size_of (scaled c.args.places c.args.terms.now) = p ∙ ap size_of c.in_ok-list.ensures in
    rw (c.deref.ensures.value, e) c.requires.small

pub returns-clause-value : goal.returns-clause-value
returns-clause-value c =
    let e : ◌≡◌ {A = List Term} (merged 0 (pos 0) c.sort.new.terms.items) (collected c.in_ok-list.list.items) = merged-collected c.sort.new.terms.items c.sort.ensures.ordered ∙ collected-permuted c.in_ok-list.list.items c.sort.new.terms.items c.sort.ensures.same in
    let f : ◌≡◌ {A = List Term} (merged 0 (pos 0) c.sort.new.terms.items) (collected (scaled c.args.places c.args.terms.now)) = e ∙ ap collected c.in_ok-list.ensures in
    rw (← f, ← c.deref.ensures.value) c.in_ok-sums.ensures

pub returns-clause-plain : goal.returns-clause-plain
returns-clause-plain c = λ plain. returns-clause-value c ∙ turned-plain c.args.negate (collected (scaled c.args.places c.args.terms.now)) plain
