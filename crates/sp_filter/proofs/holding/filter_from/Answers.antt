use Rattle.sp_model.specs.Models.{root_of}
use Rattle.sp_filter.proofs.FitLemmas.{draft_fits, draft_small}
use Rattle.sp_filter.proofs.holding.filter_from.Goals as goal

pub lowered-requires-clause-small : goal.lowered-requires-clause-small
lowered-requires-clause-small c = rw c.places_of.ensures.value (draft_small (root_of c.args.model.now) c.args.draft.now c.requires.narrow)

pub returns-clause-fits : goal.returns-clause-fits
returns-clause-fits c = draft_fits c.args.model.now c.args.draft.now c.requires.known c.requires.weights c.requires.narrow
