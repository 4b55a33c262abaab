use Rattle.std.proofs.Common.{◌≡◌, rules, is_lt, map}
use Rattle.std.proofs.lemmas.Fn.{always_returns_same}
use Rattle.std.proofs.lemmas.List.Sorted.{ranks_by}
use Rattle.sp_list.specs.Lists.{found_cmp}
use Rattle.sp_populate.proofs.ListLemmas.{found_total}
use Rattle.sp_populate.proofs.SortLemmas.{Ranked, sorting}
use Rattle.sp_populate.proofs.TestLemmas.{map-okay}
use Rattle.sp_populate.proofs.listing.sorted.Goals as goal

pub returns : goal.returns
returns c =
    map-okay (λ serials. serials.items ≡ map (λ (r : Ranked). r.0) c.as_slice.result.now) _ c.serials_of.result
    (λ serials is. sorting c.args.found.now c.args.cut.now c.args.filters.now c.in_ok-ranked.ranked.items c.sort_unstable_by.new.self.items serials.items
    c.in_ok-ranked.ensures c.sort_unstable_by.ensures.permutation
    (c.sort_unstable_by.ensures.sorted (λ p q. is_lt (found_cmp p.1.now q.1.now)) (ranks_by found_total (λ (p : Ranked). p.1.now))
    (always_returns_same _ (λ a r. is_lt r ≡ is_lt (found_cmp a.0.now.1.now a.1.0.now.1.now)) _ (λ a r f' k. search rules)))
    (rw c.as_slice.ensures.value at is))
    c.serials_of.ensures
