use Rattle.std.proofs.Common.{◌-◌, length}
use Rattle.sp_populate.proofs.best.+rounds.Given as goal

abbrev pub decreases-rounds : goal.decreases-rounds
decreases-rounds l = 4294967296 - length l.state.now.search.found
