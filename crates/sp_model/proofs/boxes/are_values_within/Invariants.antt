use Rattle.sp_model.specs.Boxes.{ranges}
use Rattle.sp_model.proofs.WithinLemmas.{AreBetween}
use Rattle.sp_model.proofs.boxes.are_values_within.Given as goal

abbrev pub invariant-loop-at : goal.invariant-loop-at
invariant-loop-at l = AreBetween (ranges l.lower l.upper) l.x l.at
