use Rattle.sp_lower.specs.InnerLowering.{boxed_fault}
use Rattle.sp_lower.specs.Lowering.{model_of}
use Rattle.sp_lower.proofs.LowerLemmas.{open_late, open_none, pass_good, pass_refused, root_is_box, root_is_long}
use Rattle.sp_lower.proofs.MemoryLemmas.{outline_lawful, boxed_makes}
use Rattle.sp_lower.proofs.lowering.with_parts.Goals as goal

pub returns-in-Err-clause-refused : goal.returns-in-Err-clause-refused
returns-in-Err-clause-refused c = open_late c.args.draft.now c.args.parts c.in-Err.refusal c.requires.parts c.in-Err.ensures.refused

pub with_root-requires-clause-root : goal.with_root-requires-clause-root
with_root-requires-clause-root c = root_is_box c.args.draft.now c.args.parts c.in-Ok.root c.requires.parts c.in-Ok.ensures.closed.0

pub with_root-requires-clause-long : goal.with_root-requires-clause-long
with_root-requires-clause-long c = root_is_long c.args.draft.now c.args.parts c.in-Ok.root c.requires.parts c.in-Ok.ensures.closed.2

pub returns-in-Ok-clause-good : goal.returns-in-Ok-clause-good
returns-in-Ok-clause-good c = pass_good _ (boxed_fault c.args.draft.now) c.with_root.result (model_of c.args.draft.now) (open_none c.args.draft.now c.args.parts c.requires.parts c.in-Ok.ensures.none) c.with_root.ensures.good

pub returns-in-Ok-clause-refused : goal.returns-in-Ok-clause-refused
returns-in-Ok-clause-refused c = pass_refused _ (boxed_fault c.args.draft.now) c.with_root.result (open_none c.args.draft.now c.args.parts c.requires.parts c.in-Ok.ensures.none) c.with_root.ensures.refused

pub closed_root-requires : goal.closed_root-requires
closed_root-requires c = outline_lawful c.args.draft.now c.args.parts c.requires.early c.requires.parts

pub with_root-requires-clause-lawful : goal.with_root-requires-clause-lawful
with_root-requires-clause-lawful c = boxed_makes c.args.draft.now c.requires.lawful (open_none c.args.draft.now c.args.parts c.requires.parts c.in-Ok.ensures.none)
