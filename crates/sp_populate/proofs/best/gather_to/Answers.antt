use Rattle.std.proofs.Common.{rules, FitsSigned, to_z-of_z}
use Rattle.std.specs.Int.{w128}
use Rattle.sp_populate.proofs.ReopenLemmas.{IsReopened, reopened-all}
use Rattle.sp_populate.proofs.RoundLemmas.{gathered-one}
use Rattle.sp_populate.proofs.best.gather_to.Goals as goal

pub work_off-requires-clause-settled : goal.work_off-requires-clause-settled
work_off-requires-clause-settled c =
    let f : FitsSigned w128 c.args.cut.now = search rules in
    let e : IsReopened c.args.state.now c.reopen.new.self c.args.cut.now c.args.filters.now = rw (to_z-of_z f) at c.reopen.ensures.reopened in
    reopened-all c.args.state.now c.reopen.new.self c.args.cut.now c.args.filters.now e

pub returns-in_err-end-clause-run : goal.returns-in_err-end-clause-run
returns-in_err-end-clause-run c =
    let f : FitsSigned w128 c.args.cut.now = search rules in
    let e : IsReopened c.args.state.now c.reopen.new.self c.args.cut.now c.args.filters.now = rw (to_z-of_z f) at c.reopen.ensures.reopened in
    gathered-one c.extensions_last.ensures.joined c.reopening_spares_licensed.ensures.spared c.reopening_spares_licensed.ensures.marked
    c.args.state.now c.reopen.new.self c.work_off.new.state c.args.cut.now c.args.most.now c.args.filters.now c.args.node_limit
    e c.reopen.ensures.extends (c.reopen.ensures.covered c.args.filters.now) c.requires.lower c.work_off.ensures.run c.work_off.ensures.touched c.work_off.ensures.covered

pub returns-clause-run : goal.returns-clause-run
returns-clause-run c =
    let f : FitsSigned w128 c.args.cut.now = search rules in
    let e : IsReopened c.args.state.now c.reopen.new.self c.args.cut.now c.args.filters.now = rw (to_z-of_z f) at c.reopen.ensures.reopened in
    gathered-one c.extensions_last.ensures.joined c.reopening_spares_licensed.ensures.spared c.reopening_spares_licensed.ensures.marked
    c.args.state.now c.reopen.new.self c.work_off.new.state c.args.cut.now c.args.most.now c.args.filters.now c.args.node_limit
    e c.reopen.ensures.extends (c.reopen.ensures.covered c.args.filters.now) c.requires.lower c.work_off.ensures.run c.work_off.ensures.touched c.work_off.ensures.covered
