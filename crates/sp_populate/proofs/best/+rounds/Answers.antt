use Rattle.std.proofs.Common.{rules, FitsSigned, to_z-of_z}
use Rattle.std.specs.Int.{w128}
use Rattle.sp_populate.proofs.RoundLemmas.{cut-lower, cut-more, later-join, later-most, up}
use Rattle.sp_populate.proofs.best.+rounds.Goals as goal

pub returns-in-NodeLimit-clause-run : goal.returns-in-NodeLimit-clause-run
returns-in-NodeLimit-clause-run t c = λ most lower.
    later-most c.args.state.now c.work_off.new.state c.args.cut.now most c.args.filters.now c.args.node_limit lower c.work_off.ensures.run

pub returns-in_ok-lower-in-PopulateLimit-clause-ends : goal.returns-in_ok-lower-in-PopulateLimit-clause-ends
returns-in_ok-lower-in-PopulateLimit-clause-ends t c = λ most fits.
    let old = c.args.state.now in
    let mid = c.work_off.new.state in
    let cut = c.args.cut.now in
    let new = c.in_ok-lower-in-PopulateLimit.lower in
    let fs = c.args.filters.now in
    let f : FitsSigned w128 new = search rules in
    let ends = rw (to_z-of_z f) at c.rounds.ensures.ends in
    let later = cut-more old.search.found mid.search.found c.work_off.ensures.run.more fs c.args.k cut most c.work_off.ensures.run.grows fits in
    ends most (cut-lower mid.search.found mid.search.best fs c.args.k cut new most later c.in_ok-lower-in-PopulateLimit.ensures)

pub returns-in_ok-lower-in-PopulateLimit-clause-run : goal.returns-in_ok-lower-in-PopulateLimit-clause-run
returns-in_ok-lower-in-PopulateLimit-clause-run t c = λ most lower.
    let old = c.args.state.now in
    let mid = c.work_off.new.state in
    let cut = c.args.cut.now in
    let new = c.in_ok-lower-in-PopulateLimit.lower in
    let fs = c.args.filters.now in
    let f : FitsSigned w128 new = search rules in
    let run = rw (to_z-of_z f) at c.rounds.ensures.run in
    let l = c.in_ok-lower-in-PopulateLimit.ensures in
    later-join c.extensions_last.ensures.joined old mid c.rounds.new.state most fs c.args.node_limit
    (later-most old mid cut most fs c.args.node_limit lower c.work_off.ensures.run) (run most (up new cut most l.lower lower))
