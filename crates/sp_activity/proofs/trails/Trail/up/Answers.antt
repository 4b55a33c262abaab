use Rattle.std.proofs.Common.{◌≡◌, [], ◌∷◌, ◌++◌, sym, ◌∙◌}
use Rattle.sp_activity.proofs.PathLemmas.{back_change, popped}
use Rattle.sp_activity.proofs.trails.Trail.up.Goals as goal
use Rattle.sp_activity.proofs.trails.Trail.up.Goals.{in-None, in-Some}

pub returns-clause-trail : goal.returns-clause-trail
returns-clause-trail c = elim c.match-pop.branch [
  | in-None w ↦ rw w.result-is tt
  | in-Some w ↦ rw w.result-is (λ root b t. (
      let made : c.args.self.now ≡ c.pop.new.self.items ++ w.in-Some.past ∷ [] = sym c.self.view_is ∙ w.in-Some.ensures.items in
      popped root b c.pop.new.self.items w.in-Some.past (rw made at t)
      ))
]

pub returns-clause-change : goal.returns-clause-change
returns-clause-change c = elim c.match-pop.branch [
  | in-None w ↦ rw w.result-is tt
  | in-Some w ↦ rw w.result-is (λ root b i t. (
      let made : c.args.self.now ≡ c.pop.new.self.items ++ w.in-Some.past ∷ [] = sym c.self.view_is ∙ w.in-Some.ensures.items in
      back_change root b c.pop.new.self.items w.in-Some.past i (rw made at t)
      ))
]
