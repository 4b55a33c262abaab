use Rattle.std.proofs.Common.{arith}
use Rattle.sp_decimal.proofs.ReadLemmas.{power-fits, whole-fits}
use Rattle.sp_decimal.proofs.reading.whole_number.Goals as goal

pub pow-requires : goal.pow-requires
pow-requires c = omega (arith, power-fits c.args.zeros (omega arith))

pub overflow_mul-result : goal.overflow_mul-result
overflow_mul-result c =
    omega (arith, whole-fits c.args.head.now c.args.tail.now c.number.result c.pow.result c.args.zeros c.requires.head c.requires.tail c.requires.short c.number.ensures c.pow.ensures)
