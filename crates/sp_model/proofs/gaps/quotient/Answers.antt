use Rattle.std.proofs.Common.{arith}
use Rattle.sp_model.proofs.CutLemmas.{quotient_split}
use Rattle.sp_model.proofs.gaps.quotient.Goals as goal

pub returns : goal.returns
returns c = let split = quotient_split c.args.p c.args.base c.args.divisor c.requires.positive in omega arith
