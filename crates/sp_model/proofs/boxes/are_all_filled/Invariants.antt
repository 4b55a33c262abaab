use Rattle.std.proofs.Common.{◌↔◌, ◌<◌, drop}
use Rattle.sp_model.specs.Boxes.{ranges, point_count}
use Rattle.sp_model.proofs.boxes.are_all_filled.Given as goal

-- all ranges are filled exactly where those that are left are
abbrev pub invariant-loop-place : goal.invariant-loop-place
invariant-loop-place l =
    (0 < point_count (ranges (drop l.place l.lower) (drop l.place l.upper))) ↔ (0 < point_count (ranges l.lower l.upper))
