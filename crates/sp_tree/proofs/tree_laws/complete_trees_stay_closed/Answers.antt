use Rattle.sp_tree.proofs.FinalLemmas.{complete-stays}
use Rattle.sp_tree.proofs.tree_laws.complete_trees_stay_closed.Goals as goal

pub returns : goal.returns
returns c = complete-stays
