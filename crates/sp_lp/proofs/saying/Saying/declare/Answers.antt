use Rattle.std.proofs.Common.{sym}
use Rattle.sp_lp.specs.States.{said_of}
use Rattle.sp_lp.proofs.FoundLemmas.{declared_known}
use Rattle.sp_lp.proofs.saying.Saying.declare.Goals as goal

pub returns-in-Some-clause-said : goal.returns-in-Some-clause-said
returns-in-Some-clause-said c = declared_known (said_of c.args.self.now) c.args.name.now c.in-Some.id (sym c.in-Some.ensures)
