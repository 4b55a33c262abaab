use Rattle.std.proofs.Common.{◌≡◌, vec_len}
use Rattle.sp_model.proofs.boxes.tests.box_of.Given as goal

abbrev pub invariant-loop-least : goal.invariant-loop-least
invariant-loop-least l = vec_len l.upper ≡ vec_len l.lower
