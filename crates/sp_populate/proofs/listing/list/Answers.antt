use Rattle.std.proofs.Common.{◌≡◌, refl, ◌∙◌, rules, FitsSigned, to_z-of_z, to_z, of_z}
use Rattle.std.specs.Int.{w128}
use Rattle.sp_tree.specs.Trees.{IsComplete, is_held}
use Rattle.sp_populate.specs.Complete.{cut_under}
use Rattle.sp_populate.proofs.EndLemmas.{complete-shut}
use Rattle.sp_populate.proofs.ListLemmas.{IsSolved, listing}
use Rattle.sp_populate.proofs.listing.list.Goals as goal

cut-is : (c : goal.In-Ok) → to_z w128 (of_z w128 c.present_cut-cut.result) ≡ cut_under c.args.gaps.now c.args.state.now
cut-is c =
    let f : FitsSigned w128 c.present_cut-cut.result = search rules in
    to_z-of_z f ∙ c.present_cut-cut.ensures.cut

complete : (c : goal.In-Ok) → IsComplete (cut_under c.args.gaps.now c.args.state.now) (is_held c.args.filters.now) c.args.state.now.search.tree.nodes
complete c = rw (cut-is c, c.tree.ensures.tree) at (c.if-not-is_complete.ensures.0 refl)

solved : (c : goal.In-Ok) → IsSolved c.args.state.now c.args.gaps.now c.args.filters.now
solved c =
    let s = c.args.state.now in
    let fs = c.args.filters.now in
    let st = c.tree.ensures.state in
    let cut = cut_under c.args.gaps.now s in
    let shut = complete-shut cut (is_held fs) s.search.tree.nodes (complete c) in
    let best = c.covered_searches_find_all.ensures.optimum s.model fs s.search c.requires.covered shut in
    record {
      are = c.covered_searches_find_all.ensures.distinct s.model s.search st.search;
      there = λ x h. c.covered_searches_find_all.ensures.found s.model fs s.search cut x st.lawful c.requires.covered (complete c) h;
      optimum = best.0;
      best = best.1;
    }

pub returns-in-Ok-clause-listed : goal.returns-in-Ok-clause-listed
returns-in-Ok-clause-listed c = listing c.args.state.now c.args.gaps.now c.args.filters.now c.in-Ok.serials.items (solved c) (rw (cut-is c) at c.in-Ok.ensures)
