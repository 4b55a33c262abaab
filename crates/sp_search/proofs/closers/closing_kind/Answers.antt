use Rattle.sp_model.specs.Models.{root_of}
use Rattle.sp_search.proofs.BoxLemmas.{inside-from, unreasoned-filled}
use Rattle.sp_search.proofs.closers.closing_kind.Goals as goal

pub screen_of-requires-clause-inside : goal.screen_of-requires-clause-inside
screen_of-requires-clause-inside c =
    inside-from (root_of c.args.model.now) c.args.bounds.now c.requires.under (unreasoned-filled c.args.model.now c.args.bounds.now c.in-None.ensures)

pub closing_list-requires-clause-inside : goal.closing_list-requires-clause-inside
closing_list-requires-clause-inside c =
    inside-from (root_of c.args.model.now) c.args.bounds.now c.requires.under (unreasoned-filled c.args.model.now c.args.bounds.now c.in-None.ensures)
