use Rattle.std.proofs.Common.{◌∙◌, ap, Some}
use Rattle.sp_draft.proofs.NameLemmas.{names-find}
use Rattle.sp_draft.proofs.naming.Names.find.Goals as goal

pub returns-in-None : goal.returns-in-None
returns-in-None c = rw (← c.self.view_is) (c.in-None.ensures.index ∙ names-find c.self.inside.set.keys c.args.name.now)

pub returns-in-Some : goal.returns-in-Some
returns-in-Some c =
    rw (← c.self.view_is) (ap Some c.new.ensures ∙ c.in-Some.ensures.index ∙ names-find c.self.inside.set.keys c.args.name.now)
