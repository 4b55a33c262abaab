use Rattle.std.proofs.Common.{length}
use Rattle.sp_base.proofs.cutting_tests.drawn.Given as goal

abbrev pub decreases-lines : goal.decreases-lines
decreases-lines l = length l.rest
