use Rattle.std.proofs.Common.{◌≡◌, ◌∙◌, ◌≤◌, ap, subst, length, refl, Ok}
use Rattle.sp_list.specs.Lists.{points_of}
use Rattle.sp_engine.specs.LegalRuns.{room_of}
use Rattle.sp_engine.specs.Notes.{run_notes}
use Rattle.sp_engine.specs.Views.{settings_with}
use Rattle.sp_engine.proofs.FirstRunLemmas.{is_first_run, no_filter_fits}
use Rattle.sp_engine.proofs.runs.run_new.Goals as goal

pub populate-requires-clause-can : goal.populate-requires-clause-can
populate-requires-clause-can c = record {
  abs = c.requires.abs;
  rel = c.requires.rel;
  fit = no_filter_fits c.args.state.now.model c.new-filters.result c.new-filters.ensures.held;
  covered = c.requires.covered c.new-filters.result;
}

pub returns-clause-run : goal.returns-clause-run
returns-clause-run c =
    let s = c.populate.new.state in
    let same : s.model ≡ c.args.state.now.model = ap (λ t. t.model) c.in_ok-end.ensures.run.rest in
    is_first_run c.args.state.now s (settings_with c.args.gaps.now c.args.node_limit) c.new-filters.result c.in_ok-end.end c.in_ok-notes.notes.items c.in_ok-reply.reply
    c.requires.fresh c.new-filters.ensures.held c.in_ok-end.ensures.state (c.covered_searches_find_all.ensures.distinct s.model s.search c.in_ok-end.ensures.state.search)
    c.optimum_is_unique.ensures c.objective_is_small.ensures c.feasible_is_within.ensures c.lists_without_filters.ensures
    c.in_ok-end.ensures.ends
    (λ e. c.in_ok-end.ensures.endless refl (ap Ok e))
    (λ room e. c.in_ok-end.ensures.roomy (subst (λ m. room_of m ≤ c.args.node_limit) same room) (ap Ok e))
    c.in_ok-end.ensures.run (c.searches_are_small.ensures.nodes s c.in_ok-end.ensures.state) c.in_ok-reply.ensures
    (c.in_ok-notes.ensures ∙ λ i. run_notes (points_of (c.found.ensures.found i)) (c.end_of.ensures i) ((c.size.ensures.size ∙ ap (λ t. length t.nodes) c.tree.ensures.tree) i))
