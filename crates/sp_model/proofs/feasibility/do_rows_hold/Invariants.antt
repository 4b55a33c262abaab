use Rattle.std.proofs.Common.{◌≡◌, true, take}
use Rattle.std.specs.List.{list_all}
use Rattle.sp_model.specs.Models.{row_holds}
use Rattle.sp_model.proofs.feasibility.do_rows_hold.Given as goal

abbrev pub invariant-loop-row : goal.invariant-loop-row
invariant-loop-row l = list_all (λ item. row_holds item l.x) (take l.row-index l.rows) ≡ true
