use Rattle.std.proofs.Common.{sym}
use Rattle.sp_activity.proofs.PathLemmas.{child-set, pushed}
use Rattle.sp_activity.proofs.trails.Trail.down.Goals as goal

pub returns-clause-part : goal.returns-clause-part
returns-clause-part c =
    rw (c.left_of-left.ensures, c.range-range.ensures) (sym (child-set c.args.bounds.now c.args.branch.now))

pub returns-clause-trail : goal.returns-clause-trail
returns-clause-trail c = λ root t. (
    let made = pushed root c.args.bounds.now c.args.self.now c.args.branch.now c.requires t in
    rw (c.in_ok-push.ensures.items, c.left_of-left.ensures, c.range-range.ensures, c.self.view_is) made
    )
