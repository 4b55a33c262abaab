use Rattle.sp_mps_sections.specs.Bounds.{check_bound, set_on, bounds_on}
use Rattle.sp_mps_sections.specs.Additions.{with_bounds}
use Rattle.sp_mps.specs.inner.Steps.{put_bounds}
use Rattle.sp_mps.proofs.StepLemmas.{lift}
use Rattle.sp_mps.proofs.reader.Reader.bound.Goals as goal

pub returns : goal.returns
returns c = rw (← c.bound_kind_of.ensures) (lift (put_bounds c.args.self.now) c.read.result c.read.new.self
    (with_bounds (set_on c.bound_kind_of.result c.args.fields.now.count c.args.fields.now.second.now) (bounds_on c.args.self.now.columns.names c.bound_kind_of.result c.args.fields.now.count c.args.fields.now.second.now c.args.fields.now.third.now c.args.fields.now.fourth.now) c.args.self.now.bounds)
    (check_bound c.args.self.now.columns.names c.args.self.now.bounds.set c.bound_kind_of.result c.args.fields.now.count c.args.fields.now.second.now c.args.fields.now.third.now c.args.fields.now.fourth.now)
    c.read.ensures)
