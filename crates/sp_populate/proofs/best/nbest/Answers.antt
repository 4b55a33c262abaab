use Rattle.std.proofs.Common.{◌≡◌, sym, ap, refl, ◌∙◌, IfOk, true}
use Rattle.sp_list.specs.Lists.{list_of}
use Rattle.sp_tree.specs.Trees.{is_held}
use Rattle.sp_populate.specs.Best.{NBestEnds}
use Rattle.sp_populate.specs.Complete.{cut_under}
use Rattle.sp_populate.specs.Ends.{goal_of}
use Rattle.sp_populate.specs.declared.best.NBestEnd.TheVariants.{NodeLimit}
use Rattle.sp_populate.proofs.CollectLemmas.{later-none}
use Rattle.sp_populate.proofs.FirstLemmas.{IsKnown, best-is, best-tells, map-best}
use Rattle.sp_populate.proofs.KeepLemmas.{shut-spares, spared-joined}
use Rattle.sp_populate.proofs.PhaseLemmas.{IsImproved, cut-stays, populated}
use Rattle.sp_populate.proofs.RoomLemmas.{Counts, stuck-small}
use Rattle.sp_populate.proofs.best.nbest.Goals as goal

improved-err : (c : goal.After-from_residual) → IsImproved c.args.state.now c.optimize.new.state c.args.node_limit
improved-err c = record { run = c.optimize.ensures.run; same = c.optimize.ensures.proved; before = c.proved-phase.ensures.state; after = c.optimize.ensures.state }

improved-then : (c : goal.Then-not-proved) → IsImproved c.args.state.now c.optimize.new.state c.args.node_limit
improved-then c = record { run = c.optimize.ensures.run; same = c.optimize.ensures.proved; before = c.proved-phase.ensures.state; after = c.optimize.ensures.state }

improved : (c : goal.After-collect_best) → IsImproved c.args.state.now c.optimize.new.state c.args.node_limit
improved c = record { run = c.optimize.ensures.run; same = c.optimize.ensures.proved; before = c.proved-phase.ensures.state; after = c.optimize.ensures.state }

pub returns-in_err-optimize-clause-run : goal.returns-in_err-optimize-clause-run
returns-in_err-optimize-clause-run c =
    let mid = c.optimize.new.state in
    populated c.extensions_last.ensures.joined c.args.state.now mid mid c.args.gaps.now c.args.filters.now c.args.node_limit (improved-err c)
    (later-none mid (cut_under c.args.gaps.now mid) c.args.filters.now c.args.node_limit (c.extensions_last.ensures.same mid.search.tree))

pub returns-then-not-proved-clause-run : goal.returns-then-not-proved-clause-run
returns-then-not-proved-clause-run c =
    let mid = c.optimize.new.state in
    populated c.extensions_last.ensures.joined c.args.state.now mid mid c.args.gaps.now c.args.filters.now c.args.node_limit (improved-then c)
    (later-none mid (cut_under c.args.gaps.now mid) c.args.filters.now c.args.node_limit (c.extensions_last.ensures.same mid.search.tree))

was : (c : goal.After-collect_best) → c.optimize.new.state.search.proved ≡ true
was c = sym c.if-not-proved.ensures.proved

known : (c : goal.After-collect_best) → IsKnown c.collect_best.new.state c.args.filters.now
known c =
    let new = c.collect_best.new.state in
    let fs = c.args.filters.now in
    let st = c.collect_best.ensures.state in
    let covered = c.collect_best.ensures.covered in
    record {
      are = c.covered_searches_find_all.ensures.distinct new.model new.search st.search;
      there = λ cut x complete l. c.covered_searches_find_all.ensures.found new.model fs new.search cut x st.lawful covered complete l;
      solved = λ shut. c.covered_searches_find_all.ensures.optimum new.model fs new.search covered shut;
      list = λ cut. (c.list_is_list_of.ensures new.model cut (list_of new.model cut) st.lawful).1 refl;
    }

ends : (c : goal.After-collect_best) → IfOk c.collect_best.result (λ end. NBestEnds c.collect_best.new.state c.args.gaps.now c.args.filters.now c.args.k c.args.node_limit end)
ends c =
    map-best c.collect_best.result (λ end h. best-tells c.optimize.new.state c.collect_best.new.state c.args.gaps.now c.args.filters.now c.args.k c.args.node_limit end
    c.collect_best.ensures.run (was c) (known c) h) c.collect_best.ensures.ends

pub returns-clause-ends : goal.returns-clause-ends
returns-clause-ends c = ends c

pub returns-clause-roomy : goal.returns-clause-roomy
returns-clause-roomy c = λ big e.
    let counts : Counts = record { sum = c.split_divides_count.ensures.sum; parts = c.split_divides_count.ensures.parts } in
    let new = c.collect_best.new.state in
    let same : new.model ≡ c.args.state.now.model = ap (λ s. s.model) c.collect_best.ensures.run.rest ∙ ap (λ s. s.model) c.optimize.ensures.run.rest in
    stuck-small counts new (goal_of c.args.gaps.now c.args.filters.now new) c.args.node_limit c.collect_best.ensures.state
    (best-is (λ end. NBestEnds new c.args.gaps.now c.args.filters.now c.args.k c.args.node_limit end) c.collect_best.result NodeLimit e (ends c)) (rw same big)

pub returns-clause-run : goal.returns-clause-run
returns-clause-run c =
    populated c.extensions_last.ensures.joined c.args.state.now c.optimize.new.state c.collect_best.new.state c.args.gaps.now c.args.filters.now c.args.node_limit (improved c) c.collect_best.ensures.run

-- ---- licensed leaves

pub returns-in_err-optimize-clause-spared : goal.returns-in_err-optimize-clause-spared
returns-in_err-optimize-clause-spared c = shut-spares _ (is_held c.args.filters.now) c.args.state.now.search.tree.nodes c.optimize.new.state.search.tree.nodes c.optimize.ensures.kept

pub returns-then-not-proved-clause-spared : goal.returns-then-not-proved-clause-spared
returns-then-not-proved-clause-spared c = shut-spares _ (is_held c.args.filters.now) c.args.state.now.search.tree.nodes c.optimize.new.state.search.tree.nodes c.optimize.ensures.kept

pub returns-clause-spared : goal.returns-clause-spared
returns-clause-spared c =
    let mid = c.optimize.new.state in
    let new = c.collect_best.new.state in
    let cut : cut_under c.args.gaps.now new ≡ cut_under c.args.gaps.now mid = cut-stays mid new c.args.gaps.now c.collect_best.ensures.run.rest c.collect_best.ensures.run.best in
    rw cut (spared-joined (cut_under c.args.gaps.now mid) (is_held c.args.filters.now) c.args.state.now.search.tree.nodes mid.search.tree.nodes new.search.tree.nodes
    c.optimize.ensures.kept c.collect_best.ensures.kept)
