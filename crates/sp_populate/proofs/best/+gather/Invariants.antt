use Rattle.sp_populate.proofs.best.+gather.Given as goal

abbrev pub decreases-gather : goal.decreases-gather
decreases-gather l = l.left
