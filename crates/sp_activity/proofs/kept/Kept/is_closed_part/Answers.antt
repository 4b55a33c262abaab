use Rattle.sp_activity.specs.Kept.{bounds_of}
use Rattle.sp_activity.proofs.SideLemmas.{put_back}
use Rattle.sp_activity.proofs.kept.Kept.is_closed_part.Goals as goal

pub returns-clause-same : goal.returns-clause-same
returns-clause-same c =
    rw (c.set-2.ensures.bounds, c.range-before.ensures, c.bounds.ensures, c.set.ensures.bounds) (put_back (bounds_of c.args.self.now) c.args.var c.args.range.now)
