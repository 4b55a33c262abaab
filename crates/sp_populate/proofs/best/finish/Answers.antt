use Rattle.std.proofs.Common.{ap, rules, FitsSigned, to_z-of_z}
use Rattle.std.specs.Int.{w128}
use Rattle.sp_tree.specs.Trees.{is_held}
use Rattle.sp_populate.specs.InnerBest.{IsLowered}
use Rattle.sp_populate.specs.InnerEnds.{IsLater}
use Rattle.sp_populate.proofs.KeepLemmas.{kept-all}
use Rattle.sp_populate.proofs.ReopenLemmas.{IsReopened, later-from, reopened-all}
use Rattle.sp_populate.proofs.RoundLemmas.{fits-reopened, later-most, same-cut, spared-most}
use Rattle.sp_populate.proofs.best.finish.Goals as goal

reopens : (c : goal.After-rounds) → IsReopened c.args.state.now c.reopen.new.self c.in_ok-cut.cut c.args.filters.now
reopens c =
    let f : FitsSigned w128 c.in_ok-cut.cut = search rules in
    rw (to_z-of_z f) at c.reopen.ensures.reopened

lowers : (c : goal.After-rounds)
    → IsLowered c.args.state.now.search.found c.args.state.now.search.best c.args.filters.now c.args.k c.args.most.now c.in_ok-cut.cut
lowers c = c.in_ok-cut.ensures

pub rounds-requires-clause-settled : goal.rounds-requires-clause-settled
rounds-requires-clause-settled c = reopened-all c.args.state.now c.reopen.new.self _ c.args.filters.now c.reopen.ensures.reopened

pub returns-clause-ends : goal.returns-clause-ends
returns-clause-ends c =
    let f : FitsSigned w128 c.in_ok-cut.cut = search rules in
    let most = c.args.most.now in
    let ends = rw (to_z-of_z f) at c.rounds.ensures.ends in
    ends most (fits-reopened c.args.state.now c.reopen.new.self c.in_ok-cut.cut most c.args.filters.now c.args.k (reopens c) (lowers c))

pub returns-clause-run : goal.returns-clause-run
returns-clause-run c =
    let f : FitsSigned w128 c.in_ok-cut.cut = search rules in
    let old = c.args.state.now in
    let new = c.rounds.new.state in
    let cut = c.in_ok-cut.cut in
    let fs = c.args.filters.now in
    let run = rw (to_z-of_z f) at c.rounds.ensures.run in
    let whole : IsLater old new cut fs c.args.node_limit =
    later-from c.extensions_last.ensures.joined old c.reopen.new.self new cut fs c.args.node_limit (reopens c) c.reopen.ensures.extends (run cut (same-cut cut)) in
    later-most old new cut c.args.most.now fs c.args.node_limit (lowers c).lower whole

pub returns-clause-kept : goal.returns-clause-kept
returns-clause-kept c =
    let old = c.args.state.now in
    let held = is_held c.args.filters.now in
    let cut = c.in_ok-cut.cut in
    spared-most cut c.args.most.now held old.search.tree.nodes c.rounds.new.state.search.tree.nodes (lowers c).lower
    (kept-all c.reopening_spares_licensed.ensures.spared c.reopening_spares_licensed.ensures.marked cut held
    old.search.tree.nodes c.reopen.new.self.search.tree.nodes c.rounds.new.state.search.tree.nodes (ap (λ s. s.search.tree.nodes) (reopens c)) c.rounds.ensures.touched)

pub returns-clause-covered : goal.returns-clause-covered
returns-clause-covered c = λ h. c.rounds.ensures.covered (c.reopen.ensures.covered c.args.filters.now h)
