use Rattle.std.proofs.Common.{length}
use Rattle.sp_base.proofs.cutting_tests.push_fields.Given as goal

abbrev pub decreases-fields : goal.decreases-fields
decreases-fields l = length l.rest
