use Rattle.std.proofs.Common.{◌∙◌, subst, sym}
use Rattle.sp_model.specs.Rules.{IsLawful}
use Rattle.sp_lower.specs.Lowering.{model_of}
use Rattle.sp_lower.proofs.LowerLemmas.{filled_is, passed_objective, same_good}
use Rattle.sp_lower.proofs.lowering.finished.Goals as goal

pub filled-requires : goal.filled-requires
filled-requires c = passed_objective c.args.draft.now c.requires.passed

pub returns-in-Ok-clause-same : goal.returns-in-Ok-clause-same
returns-in-Ok-clause-same c =
    same_good c.built.result c.in-Ok.made (model_of c.args.draft.now)
    (c.in-Ok.ensures.made ∙ filled_is c.args.draft.now c.args.parts c.args.sos c.requires.parts c.requires.passed c.requires.sets) c.built.ensures.same

pub built-requires : goal.built-requires
built-requires c =
    let same = c.in-Ok.ensures.made ∙ filled_is c.args.draft.now c.args.parts c.args.sos c.requires.parts c.requires.passed c.requires.sets in
    subst IsLawful (sym same) (c.requires.lawful c.in-Ok.ensures.few)
