use Rattle.std.proofs.Common.{sym, ◌∙◌}
use Rattle.sp_lp.specs.States.{said_of}
use Rattle.sp_lp.proofs.FoundLemmas.{declared_known, declared_put}
use Rattle.sp_lp.proofs.saying.Saying.look_up.Goals as goal

pub returns-in-Some-clause-said : goal.returns-in-Some-clause-said
returns-in-Some-clause-said c = rw c.look_up.ensures.names (declared_known (said_of c.args.self.now) c.args.name.now c.in-Some.id (sym c.in-Some.is ∙ c.look_up.ensures.found))

pub returns-in-Ok-clause-said : goal.returns-in-Ok-clause-said
returns-in-Ok-clause-said c =
    declared_put (said_of c.args.self.now) c.args.name.now c.add.new.self c.push.new.self.items c.plain_var.result
    (sym c.in-None.is ∙ c.look_up.ensures.found) (rw c.look_up.ensures.names at c.in_ok-id-in-None.ensures.names) c.in-Ok.ensures.items c.plain_var.ensures
