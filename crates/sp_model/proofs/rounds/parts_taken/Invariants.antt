use Rattle.std.proofs.Common.{◌≡◌, map, take}
use Rattle.sp_model.specs.Rounds.{takes_part}
use Rattle.sp_model.proofs.rounds.parts_taken.Given as goal

abbrev pub invariant-loop-row : goal.invariant-loop-row
invariant-loop-row l = l.taken.items ≡ map (takes_part l.count) (take l.row-index l.rows)
