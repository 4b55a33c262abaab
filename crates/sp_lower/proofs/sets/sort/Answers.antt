use Rattle.std.proofs.Common.{◌≡◌, rules, is_lt, int_cmp}
use Rattle.std.proofs.lemmas.Cmp.{int_cmp_total}
use Rattle.std.proofs.lemmas.Fn.{always_returns_same}
use Rattle.std.proofs.lemmas.List.Sorted.{ranks_by}
use Rattle.sp_lower.specs.Sets.{weight_of}
use Rattle.sp_lower.proofs.sets.sort.Goals as goal

pub returns-clause-ordered : goal.returns-clause-ordered
returns-clause-ordered c =
    c.sort_unstable_by.ensures.sorted (λ a b. is_lt (int_cmp (weight_of a) (weight_of b))) (ranks_by int_cmp_total weight_of)
    (always_returns_same _ (λ a r. is_lt r ≡ is_lt (int_cmp (weight_of a.0.now) (weight_of a.1.0.now))) _ (λ a r f' k. search rules))
