use Rattle.std.proofs.Common.{◌≡◌, All, map, filter, take}
use Rattle.sp_populate.specs.InnerLists.{IsNamed, is_listed}
use Rattle.sp_populate.proofs.listing.ranked.Given as goal

abbrev pub invariant-loop-place : goal.invariant-loop-place
invariant-loop-place l = record {
  named : All (IsNamed l.found) l.ranked.items;
  chosen : map (λ r. r.1.now) l.ranked.items ≡ filter (is_listed l.cut l.filters) (take l.place l.found);
}
