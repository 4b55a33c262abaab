use Rattle.std.proofs.Common.{rules}
use Rattle.std.proofs.lemmas.List.Sorted.{IsNonDecreasingBy-from_sort_by_key}
use Rattle.sp_model.specs.Sums.{Term}
use Rattle.sp_scaling.proofs.collecting.sort.Goals as goal

pub returns-clause-ordered : goal.returns-clause-ordered
returns-clause-ordered c =
    IsNonDecreasingBy-from_sort_by_key (λ (t : Term). t.0) _ c.sort_unstable_by_key.ensures.sorted (λ a r f h. search rules)
