use Rattle.std.proofs.Common.{sym, refl}
use Rattle.sp_lower.proofs.LowerLemmas.{lower_good, lower_refused, lower_early}
use Rattle.sp_lower.proofs.MemoryLemmas.{late_makes, early_known, early_none}
use Rattle.sp_lower.proofs.lowering.lower.Goals as goal

pub returns-in-Some-clause-refused : goal.returns-in-Some-clause-refused
returns-in-Some-clause-refused c = lower_early c.args.draft.now c.in-Some.fault (sym c.in-Some.ensures)

pub returns-in-None-clause-good : goal.returns-in-None-clause-good
returns-in-None-clause-good c = lower_good c.args.draft.now c.with_outline.result (sym c.in-None.ensures) c.with_outline.ensures.good

pub returns-in-None-clause-refused : goal.returns-in-None-clause-refused
returns-in-None-clause-refused c = lower_refused c.args.draft.now c.with_outline.result (sym c.in-None.ensures) c.with_outline.ensures.refused

pub with_outline-requires-clause-lawful : goal.with_outline-requires-clause-lawful
with_outline-requires-clause-lawful c =
    late_makes c.args.draft.now (λ h scale. c.lowered_parts_are_lawful.ensures c.args.draft.now c.requires scale h) (sym c.in-None.ensures)

pub returns-in-Some-clause-early : goal.returns-in-Some-clause-early
returns-in-Some-clause-early c = early_known _ c.in-Some.fault _ c.in-Some.ensures refl

pub returns-in-None-clause-early : goal.returns-in-None-clause-early
returns-in-None-clause-early c = early_none _ _ c.in-None.ensures
