use Rattle.sp_model.specs.declared.parts.ModelParts.{ModelParts}
use Rattle.sp_model.specs.Rules.{IsLawful}
use Rattle.sp_cover.proofs.EndLemmas.{Divides, Sound, ending-keeps}
use Rattle.sp_cover.proofs.searches.Search.settle.Goals as goal

divides : (c : goal.After-self-1) → Divides
divides c = record {
  partition = c.trees_divide.ensures.partition;
  within = c.points_are_all_within.ensures;
  counted = c.points_are_counted.ensures;
}

sound : (c : goal.After-self-1) (m : ModelParts) → IsLawful m → Sound m
sound c m lawful = record {
  inside = λ x feasible. c.feasible_is_within.ensures m x lawful feasible;
  dead = λ b r x holds held. c.reasons_are_true.ensures m b r x holds held;
  spanned = c.sums_lie_between.ensures;
  bounded = λ b list x v formed inside keeps number. c.bounds_are_sound.ensures m b list x v lawful formed inside keeps number;
  divides = divides c;
}

pub returns-in-None-clause-search : goal.returns-in-None-clause-search
returns-in-None-clause-search c =
    let none = c.in-None.ensures.none in
    rw (← c.self.view_is) (λ m lawful search. ending-keeps m (sound c m lawful) (record { tree = c.self.inside.tree; found = c.self.inside.found.items; proved = c.self.inside.proved; best = c.self.inside.best }) search (λ i leaf. none i leaf.known leaf.open_is))
