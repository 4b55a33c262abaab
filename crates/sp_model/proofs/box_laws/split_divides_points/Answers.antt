use Rattle.sp_model.proofs.SplitLemmas.{split_covers, split_parts_apart}
use Rattle.sp_model.proofs.box_laws.split_divides_points.Goals as goal

pub returns : goal.returns
returns c = record { covers = split_covers; apart = λ b v at x s both. split_parts_apart b v at x s both.0 both.1 }
