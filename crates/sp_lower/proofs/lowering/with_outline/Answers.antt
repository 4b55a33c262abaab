use Rattle.sp_lower.proofs.PassedLemmas.{near_variables, early_few}
use Rattle.sp_lower.proofs.lowering.with_outline.Goals as goal

pub outline-requires-clause-near : goal.outline-requires-clause-near
outline-requires-clause-near c = near_variables c.args.draft.now c.requires.early

pub outline-requires-clause-few : goal.outline-requires-clause-few
outline-requires-clause-few c = (early_few c.args.draft.now c.requires.early).vars
