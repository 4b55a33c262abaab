use Rattle.std.proofs.Common.{◌≤◌, drop, map}
use Rattle.sp_model.specs.Boxes.{coordinate}
use Rattle.sp_model.proofs.SetLemmas.{SetTurns}
use Rattle.sp_model.proofs.feasibility.does_set_hold.Given as goal

abbrev pub invariant-loop-var : goal.invariant-loop-var
invariant-loop-var l =
    record {
      few : l.count ≤ l.var-index;
      turns : SetTurns (map (coordinate l.x) l.set.vars) l.count l.last l.touching (map (coordinate l.x) (drop l.var-index l.set.vars));
    }
