use Rattle.sp_lower.specs.Faults.{first_fault, set_fault}
use Rattle.sp_lower.specs.Lowering.{model_of}
use Rattle.sp_lower.proofs.PassedLemmas.{early_few}
use Rattle.sp_lower.proofs.LowerLemmas.{boxed_some, boxed_none, pass_good, pass_refused}
use Rattle.sp_lower.proofs.MemoryLemmas.{sets_make}
use Rattle.sp_lower.proofs.lowering.with_root.Goals as goal

pub box_fault-requires-clause-rows : goal.box_fault-requires-clause-rows
box_fault-requires-clause-rows c = (early_few c.args.draft.now c.requires.early).rows

pub box_fault-requires-clause-indicators : goal.box_fault-requires-clause-indicators
box_fault-requires-clause-indicators c = (early_few c.args.draft.now c.requires.early).indicators

pub returns-in-Some-clause-refused : goal.returns-in-Some-clause-refused
returns-in-Some-clause-refused c = boxed_some c.args.draft.now c.args.root.now c.in-Some.fault c.requires.root c.in-Some.ensures

pub with_sets-requires-clause-passed : goal.with_sets-requires-clause-passed
with_sets-requires-clause-passed c = boxed_none c.args.draft.now c.args.root.now c.requires.root c.in-None.ensures

pub with_sets-requires-clause-few : goal.with_sets-requires-clause-few
with_sets-requires-clause-few c = (early_few c.args.draft.now c.requires.early).sos

pub returns-in-None-clause-good : goal.returns-in-None-clause-good
returns-in-None-clause-good c = pass_good _ (first_fault set_fault 0 c.args.draft.now.sos) c.with_sets.result (model_of c.args.draft.now) (boxed_none c.args.draft.now c.args.root.now c.requires.root c.in-None.ensures) c.with_sets.ensures.good

pub returns-in-None-clause-refused : goal.returns-in-None-clause-refused
returns-in-None-clause-refused c = pass_refused _ (first_fault set_fault 0 c.args.draft.now.sos) c.with_sets.result (boxed_none c.args.draft.now c.args.root.now c.requires.root c.in-None.ensures) c.with_sets.ensures.refused

pub with_sets-requires-clause-lawful : goal.with_sets-requires-clause-lawful
with_sets-requires-clause-lawful c = sets_make c.args.draft.now c.requires.lawful (boxed_none c.args.draft.now c.args.root.now c.requires.root c.in-None.ensures)
