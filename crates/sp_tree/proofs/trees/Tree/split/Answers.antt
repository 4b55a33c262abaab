use Rattle.std.proofs.Common.{rules, FitsSigned, w64, to_z-of_z, ◌≡◌, ◌+◌, ◌<◌, ◌^◌, ◌++◌, ◌∷◌, [], length, slice_set, sym, ap, ◌∙◌, arith}
use Rattle.sp_model.specs.Boxes.{point_count, CanSplit}
use Rattle.sp_tree.specs.declared.nodes.Kind.TheVariants.{Split, Open}
use Rattle.sp_tree.specs.Splits.{box_at}
use Rattle.sp_tree.specs.Trees.{open_node, node_at}
use Rattle.sp_tree.specs.InnerTrees.{IsKept, boxes_of}
use Rattle.sp_tree.proofs.ListLemmas.{default-any}
use Rattle.sp_tree.proofs.TreeLemmas.{length-splits}
use Rattle.sp_tree.proofs.GrowLemmas.{kept-more, splits-made, boxes-push}
use Rattle.sp_tree.proofs.KeepLemmas.{extends-more}
use Rattle.sp_tree.proofs.FinalLemmas.{keeps-more}
use Rattle.sp_tree.proofs.trees.Tree.split.Goals as goal

nodes-are : (c : goal.After-self-2-1) → c.push_two_open.new.nodes.items ≡ slice_set c.self.inside.nodes.items c.args.id (record { mark = c.index_mut.result.now.mark; kind = Split c.args.var c.args.at c.new-left.result c.new-right.result }) ++ (open_node ∷ open_node ∷ [])
nodes-are c =
    let e : c.reserve-2.new.self.items ≡ c.self.inside.nodes.items = c.reserve-2.ensures.items in
    let i : c.index.result ≡ c.args.id = c.index.ensures in
    let f : FitsSigned w64 c.args.at = search rules in
    let made = rw (to_z-of_z f) at c.push_two_open.ensures in
    rw (← e, ← i) made

cuts-are : (c : goal.After-self-2-1) → c.push_cut.new.cuts.items ≡ c.self.inside.cuts.items ++ (record { node = c.args.id; var = c.args.var; at = c.args.at } ∷ [])
cuts-are c =
    let e : c.reserve.new.self.items ≡ c.self.inside.cuts.items = c.reserve.ensures.items in
    let f : FitsSigned w64 c.args.at = search rules in
    let made = rw (to_z-of_z f) at c.push_cut.ensures in
    rw (← e) made

sizes : (c : goal.After-self-2-1) → (c.new-left.result ≡ length c.self.inside.nodes.items) × (c.new-right.result ≡ length c.self.inside.nodes.items + 1)
sizes c =
    let size : c.len-size.result ≡ length c.self.inside.nodes.items = search rules in
    (c.new-left.ensures ∙ size, c.new-right.ensures ∙ ap (λ n. n + 1) size)

known : (c : goal.After-self-2-1) → c.args.id < length c.self.inside.nodes.items
known c = rw (← c.self.view_is) at c.requires.known

is-open : (c : goal.After-self-2-1) → (node_at c.self.inside.nodes.items c.args.id).kind ≡ Open
is-open c = rw (← c.self.view_is) at c.requires.is_open

node-is : (c : goal.After-self-2-1) → c.index_mut.result.now ≡ node_at c.self.inside.nodes.items c.args.id
node-is c =
    let e : c.reserve-2.new.self.items ≡ c.self.inside.nodes.items = c.reserve-2.ensures.items in
    let i : c.index.result ≡ c.args.id = c.index.ensures in
    let value = rw (e, i) at c.index_mut.ensures.value in
    value ∙ default-any c.self.inside.nodes.items c.args.id c.index_mut.result.now open_node (known c)

kept : (c : goal.After-self-2-1) → IsKept c.self.inside.root c.push_cut.new.cuts.items c.push_two_open.new.nodes.items c.self.inside.table c.first_open-self-inside.result
kept c =
    let lawful : CanSplit (box_at (boxes_of c.self.inside.root c.self.inside.cuts.items) c.args.id) c.args.var c.args.at = rw (← c.self.view_is) at c.requires.lawful in
    let filled : 0 < point_count (box_at (boxes_of c.self.inside.root c.self.inside.cuts.items) c.args.id) = rw (← c.self.view_is) at c.requires.filled in
    let parts = c.split_divides_count.ensures.parts (box_at (boxes_of c.self.inside.root c.self.inside.cuts.items) c.args.id) c.args.var c.args.at lawful filled in
    let size : c.len-size.result ≡ length c.self.inside.nodes.items = search rules in
    let small : length c.self.inside.nodes.items + 2 < 2 ^ 32 = omega arith in
    let opens = rw (c.as_slice.ensures.value, nodes-are c) at c.first_open-self-inside.ensures in
    rw (nodes-are c, cuts-are c) (kept-more c.self.inside.root c.self.inside.cuts.items c.self.inside.nodes.items c.self.inside.table c.self.inside.first c.args.id c.args.var c.args.at c.new-left.result c.new-right.result c.index_mut.result.now.mark c.first_open-self-inside.result
    c.self.invariant (known c) (is-open c) (ap (λ n. n.mark) (node-is c)) lawful filled parts.0 parts.1 (sizes c).0 (sizes c).1 small opens)

pub invariant_of-self-2 : goal.invariant_of-self-2
invariant_of-self-2 c = kept c

pub returns-clause-ok : goal.returns-clause-ok
returns-clause-ok c =
    rw (← c.self.view_is, nodes-are c, cuts-are c)
    (splits-made c.self.inside.root c.self.inside.cuts.items c.self.inside.nodes.items c.self.inside.table c.args.id c.args.var c.args.at c.new-left.result c.new-right.result c.index_mut.result.now (sizes c).0 (sizes c).1 (node-is c))

pub returns-clause-extends : goal.returns-clause-extends
returns-clause-extends c =
    let long : length (boxes_of c.self.inside.root c.self.inside.cuts.items) ≡ length c.self.inside.nodes.items = sym c.self.invariant.grown.tree.sized ∙ length-splits c.self.inside.nodes.items in
    rw (← c.self.view_is, nodes-are c, cuts-are c, boxes-push c.self.inside.root c.self.inside.cuts.items (record { node = c.args.id; var = c.args.var; at = c.args.at }))
    (extends-more (boxes_of c.self.inside.root c.self.inside.cuts.items) _ c.self.inside.nodes.items _ c.self.inside.table c.args.id
    (record { mark = c.index_mut.result.now.mark; kind = Split c.args.var c.args.at c.new-left.result c.new-right.result }) long (known c) (is-open c) (ap (λ n. n.mark) (node-is c)))

pub returns-clause-grown : goal.returns-clause-grown
returns-clause-grown c = (kept c).grown

pub returns-clause-settled : goal.returns-clause-settled
returns-clause-settled c =
    rw (← c.self.view_is, nodes-are c)
    (keeps-more c.self.inside.nodes.items (open_node ∷ open_node ∷ []) c.args.id (record { mark = c.index_mut.result.now.mark; kind = Split c.args.var c.args.at c.new-left.result c.new-right.result }) (is-open c))
