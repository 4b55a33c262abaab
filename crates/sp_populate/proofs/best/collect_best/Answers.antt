use Rattle.std.proofs.Common.{◌≡◌, ◌∙◌, rules, FitsSigned, to_z, of_z, to_z-of_z}
use Rattle.std.specs.Int.{w128}
use Rattle.sp_tree.specs.Trees.{is_held}
use Rattle.sp_populate.specs.Complete.{cut_under}
use Rattle.sp_populate.proofs.RoundLemmas.{later-join, spared-join}
use Rattle.sp_populate.proofs.best.collect_best.Goals as goal

most-is : (c : goal.After-finish) → to_z w128 (of_z w128 c.present_cut-most.result) ≡ cut_under c.args.gaps.now c.args.state.now
most-is c =
    let g : FitsSigned w128 c.present_cut-most.result = search rules in
    to_z-of_z g ∙ c.present_cut-most.ensures.cut

pub returns-clause-ends : goal.returns-clause-ends
returns-clause-ends c = rw (most-is c) at c.finish.ensures.ends

pub returns-clause-run : goal.returns-clause-run
returns-clause-run c =
    let first = rw (most-is c) at c.gather.ensures.run in
    let then = rw (most-is c) at c.finish.ensures.run in
    later-join c.extensions_last.ensures.joined c.args.state.now c.gather.new.state c.finish.new.state (cut_under c.args.gaps.now c.args.state.now) c.args.filters.now c.args.node_limit first.run then

pub returns-clause-kept : goal.returns-clause-kept
returns-clause-kept c =
    let first = rw (most-is c) at c.gather.ensures.run in
    let then = rw (most-is c) at c.finish.ensures.kept in
    spared-join (cut_under c.args.gaps.now c.args.state.now) (is_held c.args.filters.now) c.args.state.now.search.tree.nodes c.gather.new.state.search.tree.nodes c.finish.new.state.search.tree.nodes
    c.gather.ensures.run.run.extends.known first.kept then

pub returns-clause-covered : goal.returns-clause-covered
returns-clause-covered c = c.finish.ensures.covered (c.gather.ensures.run.covered c.requires.can.covered)
