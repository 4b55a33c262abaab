use Rattle.sp_tree.proofs.FinalLemmas.{keeps-self, keeps-joined}
use Rattle.sp_tree.proofs.tree_laws.final_nodes_stay.Goals as goal

pub returns-clause-same : goal.returns-clause-same
returns-clause-same c = keeps-self

pub returns-clause-joined : goal.returns-clause-joined
returns-clause-joined c = keeps-joined
