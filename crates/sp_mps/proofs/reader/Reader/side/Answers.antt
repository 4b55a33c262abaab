use Rattle.sp_mps_sections.specs.Sides.{check_rhs, set_name, sides_on}
use Rattle.sp_mps_sections.specs.Additions.{with_sides}
use Rattle.sp_mps.specs.inner.Steps.{put_sides}
use Rattle.sp_mps.proofs.StepLemmas.{lift}
use Rattle.sp_mps.proofs.reader.Reader.side.Goals as goal

pub returns : goal.returns
returns c = lift (put_sides c.args.self.now) c.read.result c.read.new.self
    (with_sides (set_name c.args.fields.now.count c.args.fields.now.first.now) (sides_on c.args.self.now.rows c.args.fields.now.count c.args.fields.now.first.now c.args.fields.now.second.now c.args.fields.now.third.now c.args.fields.now.fourth.now c.args.fields.now.fifth.now) c.args.self.now.sides)
    (check_rhs c.args.self.now.rows c.args.self.now.sides.set c.args.fields.now.count c.args.fields.now.first.now c.args.fields.now.second.now c.args.fields.now.third.now c.args.fields.now.fourth.now c.args.fields.now.fifth.now)
    c.read.ensures
