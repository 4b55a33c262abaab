use Rattle.std.proofs.Common.{take}
use Rattle.sp_activity.specs.Uses.{IsUsed}
use Rattle.sp_activity.proofs.uses.add_all.Given as goal

abbrev pub invariant-loop-var : goal.invariant-loop-var
invariant-loop-var l = IsUsed l.item (take l.var-index l.vars) l.fn.lists.items l.lists.items
