use Rattle.std.proofs.Common.{◌≡◌, ◌++◌, drop, map}
use Rattle.sp_lower.specs.Faults.{first_fault, set_fault}
use Rattle.sp_lower.specs.Sets.{model_set}
use Rattle.sp_lower.proofs.lowering.model_sets.Given as goal

abbrev pub invariant-loop-at : goal.invariant-loop-at
invariant-loop-at l =
    record {
      same : first_fault set_fault l.at (drop l.at l.sets) ≡ first_fault set_fault 0 l.sets;
      whole : l.list ++ map model_set (drop l.at l.sets) ≡ map model_set l.sets;
    }
