use Rattle.std.proofs.Common.{◌∙◌}
use Rattle.sp_draft.proofs.NameLemmas.{names-insert, names-place, names-known, names-found}
use Rattle.sp_draft.proofs.naming.Names.add.Goals as goal

pub returns-in-Some-clause-names : goal.returns-in-Some-clause-names
returns-in-Some-clause-names c =
    rw (← c.self.view_is) (names-known c.self.inside.set.keys c.args.name.now c.in-Some.ensures.found)

pub returns-in-Some-clause-place : goal.returns-in-Some-clause-place
returns-in-Some-clause-place c =
    c.new.ensures ∙ rw (← c.self.view_is) (names-found c.self.inside.set.keys c.args.name.now c.in-Some.place c.in-Some.ensures.index)

pub returns-in_ok-place-in-None-clause-names : goal.returns-in_ok-place-in-None-clause-names
returns-in_ok-place-in-None-clause-names c =
    rw (← c.self.view_is, ← c.in_ok-key-in-None.ensures.items, c.in_ok-place-in-None.ensures.keys) (names-insert c.self.inside.set.keys c.in_ok-key-in-None.key)

pub returns-in_ok-place-in-None-clause-place : goal.returns-in_ok-place-in-None-clause-place
returns-in_ok-place-in-None-clause-place c =
    c.new-in-None.ensures ∙ c.in_ok-place-in-None.ensures.index
    ∙ rw (← c.self.view_is, ← c.in_ok-key-in-None.ensures.items) (names-place c.self.inside.set.keys c.in_ok-key-in-None.key.items)
