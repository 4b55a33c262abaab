use Rattle.std.proofs.Common.{length, ap, arith}
use Rattle.populate_bench.proofs.session.run_lines.Goals as goal

pub loop-line-init : goal.loop-line-init
loop-line-init g c = record {
  abs = tt;
  rel = tt;
  fit = record { each = λ k d h. let none = ap length c.new-filters.ensures.held in absurd (omega (arith, h, none)) };
  covered = c.requires c.new-filters.result;
}
