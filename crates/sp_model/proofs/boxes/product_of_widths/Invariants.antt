use Rattle.std.proofs.Common.{◌≡◌, ◌*◌, ◌<◌, ◌^◌, drop}
use Rattle.sp_model.specs.Boxes.{ranges, point_count}
use Rattle.sp_model.proofs.boxes.product_of_widths.Given as goal

-- the product so far times that of the ranges that are left is the whole product
abbrev pub invariant-loop-place : goal.invariant-loop-place
invariant-loop-place l =
    (l.count * point_count (ranges (drop l.place l.lower) (drop l.place l.upper)) ≡ point_count (ranges l.lower l.upper))
    × (l.count < 2 ^ 128)
