use Rattle.std.proofs.Common.{◌≡◌, sym}
use Rattle.sp_search.specs.declared.optima.OptEnd.TheVariants.{NodeLimit}
use Rattle.sp_search.proofs.RunLemmas.{not-limit}
use Rattle.sp_search.proofs.optima.optimize.Goals as goal

pub returns-then-proved-clause-ends : goal.returns-then-proved-clause-ends
returns-then-proved-clause-ends c = c.end_of.ensures c.args.node_limit

pub returns-then-proved-clause-roomy : goal.returns-then-proved-clause-roomy
returns-then-proved-clause-roomy c = λ big e.
    let same : c.end_of.result ≡ NodeLimit = cc in
    not-limit c.args.state.now c.args.node_limit c.end_of.result (sym c.if-proved.ensures.proved) (c.end_of.ensures c.args.node_limit) same
