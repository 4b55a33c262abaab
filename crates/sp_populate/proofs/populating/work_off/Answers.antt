use Rattle.sp_populate.proofs.CollectLemmas.{later-none}
use Rattle.sp_populate.proofs.KeepLemmas.{same-nodes}
use Rattle.sp_populate.proofs.populating.work_off.Goals as goal

pub returns-in_err-cursor-clause-run : goal.returns-in_err-cursor-clause-run
returns-in_err-cursor-clause-run c =
    let s = c.args.state.now in
    later-none s c.args.cut.now c.args.filters.now c.args.node_limit (c.extensions_last.ensures.same s.search.tree)

pub returns-in_err-cursor-clause-touched : goal.returns-in_err-cursor-clause-touched
returns-in_err-cursor-clause-touched c = same-nodes c.args.state.now.search.tree.nodes
