use Rattle.std.proofs.Common.{◌≡◌, ◌<◌, refl, sym, ap, length, arith}
use Rattle.sp_populate.proofs.populate_tests.run_model.Goals as goal

pub run-requires-clause-can : goal.run-requires-clause-can
run-requires-clause-can c = record {
  abs = c.requires.abs;
  rel = c.requires.rel;
  fit = record { each = λ k d h. let none = ap length c.new-filters.ensures.held in absurd (omega (arith, h, none)) };
  covered = c.in-Ok.ensures.covered c.new-filters.result;
}
