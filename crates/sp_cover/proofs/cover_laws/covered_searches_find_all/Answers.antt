use Rattle.sp_model.specs.declared.parts.ModelParts.{ModelParts}
use Rattle.sp_model.specs.Rules.{IsLawful}
use Rattle.sp_cover.proofs.EndLemmas.{Divides, Sound, found-are, listed-found}
use Rattle.sp_cover.proofs.cover_laws.covered_searches_find_all.Goals as goal

divides : (c : goal.After-points_are_counted) → Divides
divides c = record {
  partition = c.trees_divide.ensures.partition;
  within = c.points_are_all_within.ensures;
  counted = c.points_are_counted.ensures;
}

sound : (c : goal.After-points_are_counted) (m : ModelParts) → IsLawful m → Sound m
sound c m lawful = record {
  inside = λ x feasible. c.feasible_is_within.ensures m x lawful feasible;
  dead = λ b r x holds held. c.reasons_are_true.ensures m b r x holds held;
  spanned = c.sums_lie_between.ensures;
  bounded = λ b list x v formed inside keeps number. c.bounds_are_sound.ensures m b list x v lawful formed inside keeps number;
  divides = divides c;
}

pub returns-clause-found : goal.returns-clause-found
returns-clause-found c = λ m fs s cut x lawful cover all listed. listed-found m (sound c m lawful) fs s cut x cover.search cover.screened all listed

pub returns-clause-distinct : goal.returns-clause-distinct
returns-clause-distinct c = found-are (divides c)

pub returns-clause-optimum : goal.returns-clause-optimum
returns-clause-optimum c = λ m fs s cover none. (cover.search.optimal (cover.ended.proved none), cover.search.best)
