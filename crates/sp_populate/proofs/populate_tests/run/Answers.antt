use Rattle.std.proofs.Common.{◌≡◌, refl, sym, ap}
use Rattle.sp_filter.specs.Held.{FilterList}
use Rattle.sp_search.specs.States.{AreFit}
use Rattle.sp_populate.proofs.populate_tests.run.Goals as goal

pub list-requires : goal.list-requires
list-requires c = record {
  abs = c.requires.can.abs;
  rel = c.requires.can.rel;
  fit = rw (ap (λ s. s.model) c.populate.ensures.run.rest) c.requires.can.fit;
  covered = c.populate.ensures.covered;
}
