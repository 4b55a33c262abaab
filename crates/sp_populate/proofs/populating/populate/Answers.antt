use Rattle.std.proofs.Common.{◌≡◌, ◌≤◌, length, sym, ap, ◌∙◌, arith, IfOk, false, true}
use Rattle.std.proofs.lemmas.Bool.{false≢true}
use Rattle.sp_model.specs.Boxes.{point_count, room}
use Rattle.sp_model.specs.Models.{root_of}
use Rattle.sp_search.specs.Runs.{IsStuck}
use Rattle.sp_tree.specs.Trees.{is_held}
use Rattle.sp_populate.specs.Complete.{cut_under}
use Rattle.sp_populate.specs.Ends.{KeepsLicensed, PopEnds, found_before, goal_of}
use Rattle.sp_populate.specs.InnerEnds.{CollectEnds}
use Rattle.sp_populate.specs.declared.populating.PopEnd.TheVariants.{NodeLimit, PopulateLimit}
use Rattle.sp_populate.proofs.CollectLemmas.{later-none}
use Rattle.sp_populate.proofs.EndLemmas.{done-exactly, full-exactly, full-small, map-ok, never-full, ok-is, on-ok, stopped, tells}
use Rattle.sp_populate.proofs.KeepLemmas.{kept-joined, kept-spares, shut-spares}
use Rattle.sp_populate.proofs.PhaseLemmas.{IsImproved, cut-stays, phase-two, populated}
use Rattle.sp_populate.proofs.RoomLemmas.{Counts, stuck-small}
use Rattle.sp_populate.proofs.populating.populate.Goals as goal

improved-err : (c : goal.After-from_residual) → IsImproved c.args.state.now c.optimize.new.state c.args.node_limit
improved-err c = record { run = c.optimize.ensures.run; same = c.optimize.ensures.proved; before = c.proved-phase.ensures.state; after = c.optimize.ensures.state }

improved-then : (c : goal.Then-not-proved) → IsImproved c.args.state.now c.optimize.new.state c.args.node_limit
improved-then c = record { run = c.optimize.ensures.run; same = c.optimize.ensures.proved; before = c.proved-phase.ensures.state; after = c.optimize.ensures.state }

improved : (c : goal.After-collect) → IsImproved c.args.state.now c.optimize.new.state c.args.node_limit
improved c = record { run = c.optimize.ensures.run; same = c.optimize.ensures.proved; before = c.proved-phase.ensures.state; after = c.optimize.ensures.state }

pub returns-in_err-optimize-clause-run : goal.returns-in_err-optimize-clause-run
returns-in_err-optimize-clause-run c =
    let mid = c.optimize.new.state in
    populated c.extensions_last.ensures.joined c.args.state.now mid mid c.args.gaps.now c.args.filters.now c.args.node_limit (improved-err c)
    (later-none mid (cut_under c.args.gaps.now mid) c.args.filters.now c.args.node_limit (c.extensions_last.ensures.same mid.search.tree))

-- ---- stopped in phase one

is-open : (c : goal.Then-not-proved) → c.optimize.new.state.search.proved ≡ false
is-open c = sym c.if-not-proved.ensures.proved

stuck : (c : goal.Then-not-proved) → IsStuck c.optimize.new.state (goal_of c.args.gaps.now c.args.filters.now c.optimize.new.state) c.args.node_limit
stuck c = stopped c.optimize.new.state c.args.gaps.now c.args.filters.now c.args.node_limit c.in_ok-optimize.field-0 (is-open c) c.in_ok-optimize.ensures.ends

pub returns-then-not-proved-clause-ends : goal.returns-then-not-proved-clause-ends
returns-then-not-proved-clause-ends c = stuck c

pub returns-then-not-proved-clause-complete : goal.returns-then-not-proved-clause-complete
returns-then-not-proved-clause-complete c =
    done-exactly c.args.state.now c.optimize.new.state c.args.gaps.now c.args.filters.now c.args.node_limit c.args.found_limit NodeLimit (stuck c)

pub returns-then-not-proved-clause-full : goal.returns-then-not-proved-clause-full
returns-then-not-proved-clause-full c = never-full c.args.state.now c.optimize.new.state c.args.found_limit (is-open c)

pub returns-then-not-proved-clause-roomy : goal.returns-then-not-proved-clause-roomy
returns-then-not-proved-clause-roomy c = λ big e.
    let counts : Counts = record { sum = c.split_divides_count.ensures.sum; parts = c.split_divides_count.ensures.parts } in
    let mid = c.optimize.new.state in
    stuck-small counts mid (goal_of c.args.gaps.now c.args.filters.now mid) c.args.node_limit c.optimize.ensures.state (stuck c) (rw (ap (λ s. s.model) c.optimize.ensures.run.rest) big)

pub returns-then-not-proved-clause-run : goal.returns-then-not-proved-clause-run
returns-then-not-proved-clause-run c =
    let mid = c.optimize.new.state in
    populated c.extensions_last.ensures.joined c.args.state.now mid mid c.args.gaps.now c.args.filters.now c.args.node_limit (improved-then c)
    (later-none mid (cut_under c.args.gaps.now mid) c.args.filters.now c.args.node_limit (c.extensions_last.ensures.same mid.search.tree))

-- ---- after phase two

begins : (c : goal.After-collect) → found_before c.args.state.now c.collect.new.state ≡ length c.optimize.new.state.search.found
begins c = phase-two c.args.state.now c.optimize.new.state c.collect.new.state _ c.args.filters.now c.args.node_limit (improved c) c.collect.ensures.run

was : (c : goal.After-collect) → c.optimize.new.state.search.proved ≡ true
was c = sym c.if-not-proved.ensures.proved

ends : (c : goal.After-collect) → IfOk c.collect.result (λ end. PopEnds c.args.state.now c.collect.new.state c.args.gaps.now c.args.filters.now c.args.node_limit c.args.found_limit end)
ends c =
    map-ok c.collect.result (λ end h. tells c.args.state.now c.optimize.new.state c.collect.new.state c.args.gaps.now c.args.filters.now c.args.node_limit c.args.found_limit end
    c.collect.ensures.run (was c) c.collect.ensures.settled (begins c) h) c.collect.ensures.ends

pub returns-clause-ends : goal.returns-clause-ends
returns-clause-ends c = ends c

pub returns-clause-complete : goal.returns-clause-complete
returns-clause-complete c =
    map-ok c.collect.result (λ end h. done-exactly c.args.state.now c.collect.new.state c.args.gaps.now c.args.filters.now c.args.node_limit c.args.found_limit end h) (ends c)

pub returns-clause-full : goal.returns-clause-full
returns-clause-full c =
    map-ok c.collect.result (λ end h. full-exactly c.args.state.now c.optimize.new.state c.collect.new.state c.args.gaps.now c.args.filters.now c.args.node_limit c.args.found_limit end
    c.collect.ensures.run (was c) (begins c) h) c.collect.ensures.ends

same-model : (c : goal.After-collect) → c.collect.new.state.model ≡ c.args.state.now.model
same-model c = ap (λ s. s.model) c.collect.ensures.run.rest ∙ ap (λ s. s.model) c.optimize.ensures.run.rest

pub returns-clause-roomy : goal.returns-clause-roomy
returns-clause-roomy c = λ big e.
    let counts : Counts = record { sum = c.split_divides_count.ensures.sum; parts = c.split_divides_count.ensures.parts } in
    let new = c.collect.new.state in
    stuck-small counts new (goal_of c.args.gaps.now c.args.filters.now new) c.args.node_limit c.collect.ensures.state
    (ok-is (λ end. PopEnds c.args.state.now new c.args.gaps.now c.args.filters.now c.args.node_limit c.args.found_limit end) c.collect.result NodeLimit e (ends c)) (rw (same-model c) big)

pub returns-clause-plenty : goal.returns-clause-plenty
returns-clause-plenty c = λ big e.
    let new = c.collect.new.state in
    let small : length new.search.tree.nodes ≤ room (point_count (root_of c.args.state.now.model)) = rw (← same-model c) (c.searches_are_small.ensures.nodes new c.collect.ensures.state) in
    full-small c.args.state.now new c.args.found_limit (room (point_count (root_of c.args.state.now.model)))
    (λ i leaf. c.found_points_are_few.ensures.fewer new.model new.search i c.collect.ensures.state.search leaf) small
    (ok-is (λ end. PopEnds c.args.state.now new c.args.gaps.now c.args.filters.now c.args.node_limit c.args.found_limit end) c.collect.result PopulateLimit e (ends c)) big

pub returns-clause-endless : goal.returns-clause-endless
returns-clause-endless c = λ is e.
    let new = c.collect.new.state in
    let full = ok-is (λ end. CollectEnds c.optimize.new.state new (cut_under c.args.gaps.now c.optimize.new.state) c.args.filters.now c.args.node_limit c.args.found_limit end) c.collect.result PopulateLimit e c.collect.ensures.ends in
    let found = full.found in
    let small = full.small in
    let fewer = c.found_points_are_few.ensures.fewer new.model new.search full.node c.collect.ensures.state.search full.leaf in
    omega (arith, is, found, small, fewer)

pub returns-clause-run : goal.returns-clause-run
returns-clause-run c =
    populated c.extensions_last.ensures.joined c.args.state.now c.optimize.new.state c.collect.new.state c.args.gaps.now c.args.filters.now c.args.node_limit (improved c) c.collect.ensures.run

-- ---- licensed leaves

pub returns-in_err-optimize-clause-spared : goal.returns-in_err-optimize-clause-spared
returns-in_err-optimize-clause-spared c = shut-spares _ (is_held c.args.filters.now) c.args.state.now.search.tree.nodes c.optimize.new.state.search.tree.nodes c.optimize.ensures.kept

pub returns-then-not-proved-clause-kept : goal.returns-then-not-proved-clause-kept
returns-then-not-proved-clause-kept c = λ e. absurd (false≢true (sym (is-open c) ∙ e))

pub returns-then-not-proved-clause-spared : goal.returns-then-not-proved-clause-spared
returns-then-not-proved-clause-spared c = shut-spares _ (is_held c.args.filters.now) c.args.state.now.search.tree.nodes c.optimize.new.state.search.tree.nodes c.optimize.ensures.kept

keeps : (c : goal.After-collect)
    → KeepsLicensed (cut_under c.args.gaps.now c.collect.new.state) (is_held c.args.filters.now) c.args.state.now.search.tree.nodes c.collect.new.state.search.tree.nodes
keeps c =
    let mid = c.optimize.new.state in
    let new = c.collect.new.state in
    let cut : cut_under c.args.gaps.now new ≡ cut_under c.args.gaps.now mid = cut-stays mid new c.args.gaps.now c.collect.ensures.run.rest c.collect.ensures.run.best in
    rw cut (kept-joined (cut_under c.args.gaps.now mid) (is_held c.args.filters.now) c.args.state.now.search.tree.nodes mid.search.tree.nodes new.search.tree.nodes
    c.optimize.ensures.kept c.collect.ensures.kept)

pub returns-clause-kept : goal.returns-clause-kept
returns-clause-kept c = λ e. on-ok c.collect.result (keeps c)

pub returns-clause-spared : goal.returns-clause-spared
returns-clause-spared c =
    kept-spares (cut_under c.args.gaps.now c.collect.new.state) (is_held c.args.filters.now) c.args.state.now.search.tree.nodes c.collect.new.state.search.tree.nodes (keeps c)
