use Rattle.std.proofs.Common.{◌≡◌, ap, ◌∙◌, rules, FitsSigned, to_z, of_z, to_z-of_z}
use Rattle.std.specs.Int.{w128}
use Rattle.sp_tree.specs.Trees.{is_held}
use Rattle.sp_populate.specs.Complete.{cut_under}
use Rattle.sp_populate.proofs.EndLemmas.{map-ok}
use Rattle.sp_populate.proofs.KeepLemmas.{kept-all}
use Rattle.sp_populate.proofs.ReopenLemmas.{IsReopened, ends-from, later-from, reopened-all}
use Rattle.sp_populate.proofs.populating.collect.Goals as goal

cut-is : (c : goal.After-work_off) → to_z w128 (of_z w128 c.present_cut-cut.result) ≡ cut_under c.args.gaps.now c.args.state.now
cut-is c =
    let f : FitsSigned w128 c.present_cut-cut.result = search rules in
    to_z-of_z f ∙ c.present_cut-cut.ensures.cut

reopens : (c : goal.After-work_off) → IsReopened c.args.state.now c.reopen.new.self (cut_under c.args.gaps.now c.args.state.now) c.args.filters.now
reopens c = rw (cut-is c) at c.reopen.ensures.reopened

pub work_off-requires-clause-settled : goal.work_off-requires-clause-settled
work_off-requires-clause-settled c = reopened-all c.args.state.now c.reopen.new.self _ c.args.filters.now c.reopen.ensures.reopened

pub returns-clause-ends : goal.returns-clause-ends
returns-clause-ends c =
    let ends = rw (cut-is c) at c.work_off.ensures.ends in
    map-ok c.work_off.result (λ end h. ends-from c.args.state.now c.reopen.new.self c.work_off.new.state (cut_under c.args.gaps.now c.args.state.now) c.args.filters.now c.args.node_limit c.args.found_limit end (reopens c) h) ends

pub returns-clause-run : goal.returns-clause-run
returns-clause-run c =
    let run = rw (cut-is c) at c.work_off.ensures.run in
    later-from c.extensions_last.ensures.joined c.args.state.now c.reopen.new.self c.work_off.new.state (cut_under c.args.gaps.now c.args.state.now) c.args.filters.now c.args.node_limit (reopens c) c.reopen.ensures.extends run

pub returns-clause-kept : goal.returns-clause-kept
returns-clause-kept c =
    kept-all c.reopening_spares_licensed.ensures.spared c.reopening_spares_licensed.ensures.marked (cut_under c.args.gaps.now c.args.state.now) (is_held c.args.filters.now)
    c.args.state.now.search.tree.nodes c.reopen.new.self.search.tree.nodes c.work_off.new.state.search.tree.nodes (ap (λ s. s.search.tree.nodes) (reopens c)) c.work_off.ensures.touched
