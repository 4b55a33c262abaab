use Rattle.std.proofs.Common.{◌≡◌, ◌<◌, length, slice_set, ap, ◌∙◌}
use Rattle.sp_tree.specs.declared.nodes.Kind.TheVariants.{Open}
use Rattle.sp_tree.specs.Splits.{box_at}
use Rattle.sp_tree.specs.Trees.{node_at, open_node, IsClosing}
use Rattle.sp_tree.specs.InnerTrees.{IsKept, boxes_of}
use Rattle.sp_tree.proofs.ListLemmas.{default-any}
use Rattle.sp_tree.proofs.KeepLemmas.{kept-closed}
use Rattle.sp_tree.proofs.FinalLemmas.{keeps-set}
use Rattle.sp_tree.proofs.trees.Tree.close.Goals as goal

kept : (c : goal.After-self-2-1) → IsKept c.self.inside.root c.self.inside.cuts.items (slice_set c.self.inside.nodes.items c.index.result (record { mark = c.index_mut.result.now.mark; kind = c.args.kind })) c.self.inside.table c.first_open-self-inside.result
kept c =
    let known : c.args.id < length c.self.inside.nodes.items = rw (← c.self.view_is) at c.requires.known in
    let is : (node_at c.self.inside.nodes.items c.args.id).kind ≡ Open = rw (← c.self.view_is) at c.requires.is_open in
    let closing : IsClosing c.self.inside.table (box_at (boxes_of c.self.inside.root c.self.inside.cuts.items) c.args.id) c.args.kind = rw (← c.self.view_is) at c.requires.closing in
    let here : c.index.result ≡ c.args.id = c.index.ensures in
    let value = rw here at c.index_mut.ensures.value in
    let same : c.index_mut.result.now.mark ≡ (node_at c.self.inside.nodes.items c.args.id).mark = ap (λ n. n.mark) (value ∙ default-any c.self.inside.nodes.items c.args.id c.index_mut.result.now open_node known) in
    let opens = rw (c.as_slice.ensures.value, here) at c.first_open-self-inside.ensures in
    rw here (kept-closed c.self.inside.root c.self.inside.cuts.items c.self.inside.nodes.items c.self.inside.table c.self.inside.first c.first_open-self-inside.result c.args.id c.index_mut.result.now.mark c.args.kind c.self.invariant known is same closing opens)

pub invariant_of-self : goal.invariant_of-self
invariant_of-self c = kept c

pub returns-clause-grown : goal.returns-clause-grown
returns-clause-grown c = (kept c).grown

pub returns-clause-settled : goal.returns-clause-settled
returns-clause-settled c =
    let here : c.index.result ≡ c.args.id = c.index.ensures in
    let is : (node_at c.self.inside.nodes.items c.args.id).kind ≡ Open = rw (← c.self.view_is) at c.requires.is_open in
    rw (← c.self.view_is, here) (keeps-set c.self.inside.nodes.items c.args.id (record { mark = c.index_mut.result.now.mark; kind = c.args.kind }) is)
