use Rattle.sp_activity.proofs.SideLemmas.{put_back}
use Rattle.sp_activity.proofs.sides.is_closed_part.Goals as goal

pub returns-clause-same : goal.returns-clause-same
returns-clause-same c =
    rw (c.set-2.ensures, c.range-before.ensures, c.set.ensures) (put_back c.args.bounds.now c.args.var c.args.range.now)
