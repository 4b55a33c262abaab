use Rattle.std.proofs.Common.{length}
use Rattle.sp_decimal.proofs.DigitValueLemmas.{room-head, room-tail}
use Rattle.sp_decimal.proofs.significands.number.Goals as goal

pub append_short-requires-then-head-tail-le19-clause-fits :
    goal.append_short-requires-then-head-tail-le19-clause-fits
append_short-requires-then-head-tail-le19-clause-fits c =
    room-tail c.append_short.result c.args.head.now c.args.tail.now 19 c.requires.head c.if-head-tail-le19.true c.append_short.ensures

pub append-requires-clause-fits : goal.append-requires-clause-fits
append-requires-clause-fits c = room-head (length c.args.head.now) (length c.args.tail.now) 38 c.requires.short

pub append-requires-else-head-tail-le19-clause-fits :
    goal.append-requires-else-head-tail-le19-clause-fits
append-requires-else-head-tail-le19-clause-fits c =
    room-tail c.append.result c.args.head.now c.args.tail.now 38 c.requires.head c.requires.short c.append.ensures
