use Rattle.sp_activity.proofs.BoxLemmas.{inside_under, kept_inside}
use Rattle.sp_activity.specs.Kept.{bounds_of}
use Rattle.sp_model.specs.Models.{root_of}
use Rattle.sp_activity.proofs.kept.Kept.bounds_in.Goals as goal

pub returns-clause-inside : goal.returns-clause-inside
returns-clause-inside c =
    rw c.bounds.ensures (kept_inside c.args.model.now c.args.self.now c.requires c.root-root.ensures.inside)

pub returns-clause-under : goal.returns-clause-under
returns-clause-under c =
    rw c.bounds.ensures (inside_under (root_of c.args.model.now) (bounds_of c.args.self.now) (kept_inside c.args.model.now c.args.self.now c.requires c.root-root.ensures.inside))
