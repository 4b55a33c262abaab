use Rattle.std.proofs.Common.{◌≡◌, rules, is_lt}
use Rattle.std.proofs.lemmas.Fn.{always_returns_same}
use Rattle.std.proofs.lemmas.List.Sorted.{ranks_by}
use Rattle.sp_list.specs.declared.found.Found.{Found}
use Rattle.sp_list.specs.Lists.{found_cmp}
use Rattle.sp_list.proofs.ListLemmas.{found_total, found_list}
use Rattle.sp_list.proofs.lists.order.Goals as goal

pub returns-clause-sorted : goal.returns-clause-sorted
returns-clause-sorted c =
    c.sort_unstable_by.ensures.sorted (λ f g. is_lt (found_cmp f g)) (ranks_by found_total (λ (f : Found). f))
    (always_returns_same _ (λ a r. is_lt r ≡ is_lt (found_cmp a.0.now a.1.0.now)) _ (λ a r f' k. search rules))

pub returns-clause-list : goal.returns-clause-list
returns-clause-list c m cut enough near =
    found_list m cut c.args.found.items c.sort_unstable_by.new.self.items c.sort_unstable_by.ensures.permutation (returns-clause-sorted c) enough near
