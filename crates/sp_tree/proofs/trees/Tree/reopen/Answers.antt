use Rattle.std.proofs.Common.{rules, FitsSigned, to_z-of_z, ◌≡◌, ◌++◌, length, map, take, drop, ap, ◌∙◌, arith}
use Rattle.std.specs.Int.{w128}
use Rattle.std.proofs.lemmas.List.{length-map}
use Rattle.sp_tree.specs.Trees.{reopened, is_held}
use Rattle.sp_tree.specs.InnerTrees.{IsKept, boxes_of}
use Rattle.sp_tree.proofs.KeepLemmas.{kept-reopened, extends-reopened, written-back}
use Rattle.sp_tree.proofs.FinalLemmas.{keeps-reopened}
use Rattle.sp_tree.proofs.trees.Tree.reopen.Goals as goal

swept : (c : goal.After-self-2-1) → take c.self.inside.nodes.len (c.reopen_all-count.new.nodes ++ drop (length c.reopen_all-count.new.nodes) c.self.inside.nodes.items) ≡ map (reopened c.args.cut (is_held c.args.filters.now)) c.self.inside.nodes.items
swept c =
    let f = reopened c.args.cut (is_held c.args.filters.now) in
    let fits : FitsSigned w128 c.args.cut = search rules in
    let nodes = rw (to_z-of_z fits) at c.reopen_all-count.ensures.nodes in
    let is : c.reopen_all-count.new.nodes ≡ map f c.self.inside.nodes.items = nodes ∙ ap (map f) c.as_mut_slice.ensures.value in
    let long : length c.reopen_all-count.new.nodes ≡ length c.self.inside.nodes.items = ap length is ∙ length-map c.self.inside.nodes.items f in
    written-back c.self.inside.nodes.len c.reopen_all-count.new.nodes (drop (length c.reopen_all-count.new.nodes) c.self.inside.nodes.items) (omega (arith, long, c.as_mut_slice.ensures.len, c.as_mut_slice.ensures.value)) ∙ is

kept : (c : goal.After-self-2-1) → IsKept c.self.inside.root c.self.inside.cuts.items (take c.self.inside.nodes.len (c.reopen_all-count.new.nodes ++ drop (length c.reopen_all-count.new.nodes) c.self.inside.nodes.items)) c.self.inside.table c.first_open-self-inside.result
kept c =
    let opens = rw (c.as_slice.ensures.value, swept c) at c.first_open-self-inside.ensures in
    rw (swept c) (kept-reopened c.self.inside.root c.self.inside.cuts.items c.self.inside.nodes.items c.self.inside.table c.self.inside.first c.first_open-self-inside.result c.args.cut (is_held c.args.filters.now) c.self.invariant opens)

pub invariant_of-self : goal.invariant_of-self
invariant_of-self c = kept c

pub returns-clause-grown : goal.returns-clause-grown
returns-clause-grown c = (kept c).grown

pub returns-clause-extends : goal.returns-clause-extends
returns-clause-extends c =
    rw (← c.self.view_is, swept c)
    (extends-reopened (boxes_of c.self.inside.root c.self.inside.cuts.items) c.self.inside.nodes.items c.self.inside.table c.args.cut (is_held c.args.filters.now))

pub returns-clause-settled : goal.returns-clause-settled
returns-clause-settled c = rw (← c.self.view_is, swept c) (keeps-reopened c.args.cut (is_held c.args.filters.now) c.self.inside.nodes.items)
