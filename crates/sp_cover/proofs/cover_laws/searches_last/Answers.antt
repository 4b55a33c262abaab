use Rattle.sp_model.specs.declared.parts.ModelParts.{ModelParts}
use Rattle.sp_model.specs.Rules.{IsLawful}
use Rattle.sp_cover.proofs.CloseLemmas.{closing-keeps}
use Rattle.sp_cover.proofs.EndLemmas.{Divides, Sound, ending-keeps, starting-covers}
use Rattle.sp_cover.proofs.FindLemmas.{finding-keeps}
use Rattle.sp_cover.proofs.ReopenLemmas.{keeping-keeps, reopening-keeps}
use Rattle.sp_cover.proofs.SplitLemmas.{splitting-keeps}
use Rattle.sp_cover.proofs.cover_laws.searches_last.Goals as goal

divides : (c : goal.After-points_are_counted) → Divides
divides c = record {
  partition = c.trees_divide.ensures.partition;
  within = c.points_are_all_within.ensures;
  counted = c.points_are_counted.ensures;
}

sound : (c : goal.After-points_are_counted) (m : ModelParts) → IsLawful m → Sound m
sound c m lawful = record {
  inside = λ x feasible. c.feasible_is_within.ensures m x lawful feasible;
  dead = λ b r x holds held. c.reasons_are_true.ensures m b r x holds held;
  spanned = c.sums_lie_between.ensures;
  bounded = λ b list x v formed inside keeps number. c.bounds_are_sound.ensures m b list x v lawful formed inside keeps number;
  divides = divides c;
}

pub returns-clause-closing : goal.returns-clause-closing
returns-clause-closing c = λ m s aim id kind cover grown ext fits here may. closing-keeps c.extensions_last.ensures.marks m s aim id kind cover grown ext fits here.known here.open_is may

pub returns-clause-finding : goal.returns-clause-finding
returns-clause-finding c = λ m s id f cover grown ext here may. finding-keeps c.extensions_last.ensures.marks m s id f cover grown ext here.known here.open_is may

pub returns-clause-splitting : goal.returns-clause-splitting
returns-clause-splitting c = λ m s t id var at left right cover grown ext made here free. splitting-keeps c.extensions_last.ensures.marks m s t id var at left right cover grown ext made here.known here.open_is free

pub returns-clause-keeping : goal.returns-clause-keeping
returns-clause-keeping c = keeping-keeps

pub returns-clause-reopening : goal.returns-clause-reopening
returns-clause-reopening c = reopening-keeps c.extensions_last.ensures.marks

pub returns-clause-ending : goal.returns-clause-ending
returns-clause-ending c = λ m s lawful cover none. ending-keeps m (sound c m lawful) s cover none

pub returns-clause-starting : goal.returns-clause-starting
returns-clause-starting c = starting-covers
