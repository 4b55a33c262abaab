use Rattle.sp_search.proofs.MeasureLemmas.{Counts}
use Rattle.sp_search.proofs.RunLemmas.{step-falls}
use Rattle.sp_search.proofs.search_laws.steps_fall.Goals as goal

counts : (c : goal.After-split_divides_count) → Counts
counts c = record { sum = c.split_divides_count.ensures.sum; parts = c.split_divides_count.ensures.parts }

pub returns : goal.returns
returns c = record {
  falls = λ old new aim node limit stepped state leaf go steps.
      step-falls (counts c) old.model old.search new.search aim node limit stepped state.search.grown leaf go steps;
}
