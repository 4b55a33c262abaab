use Rattle.sp_mps_sections.specs.Sides.{check_ranges, set_name, ranges_on}
use Rattle.sp_mps_sections.specs.Additions.{with_ranges}
use Rattle.sp_mps.specs.inner.Steps.{put_ranges}
use Rattle.sp_mps.proofs.StepLemmas.{lift}
use Rattle.sp_mps.proofs.reader.Reader.range.Goals as goal

pub returns : goal.returns
returns c = lift (put_ranges c.args.self.now) c.read.result c.read.new.self
    (with_ranges (set_name c.args.fields.now.count c.args.fields.now.first.now) (ranges_on c.args.self.now.rows c.args.fields.now.count c.args.fields.now.first.now c.args.fields.now.second.now c.args.fields.now.third.now c.args.fields.now.fourth.now c.args.fields.now.fifth.now) c.args.self.now.ranges)
    (check_ranges c.args.self.now.rows c.args.self.now.ranges.set c.args.fields.now.count c.args.fields.now.first.now c.args.fields.now.second.now c.args.fields.now.third.now c.args.fields.now.fourth.now c.args.fields.now.fifth.now)
    c.read.ensures
