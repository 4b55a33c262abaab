use Rattle.std.proofs.Common.{drop}
use Rattle.sp_bound.specs.Inner.{minus}
use Rattle.sp_bound.proofs.ChangeLemmas.{IsChanging}
use Rattle.sp_bound.proofs.scratch.take_terms.Given as goal

abbrev pub invariant-loop-term : goal.invariant-loop-term
invariant-loop-term l = IsChanging minus l.factor l.terms (drop l.term-index l.terms) l.initial.costs.items l.costs.items
