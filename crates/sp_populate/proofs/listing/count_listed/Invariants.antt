use Rattle.std.proofs.Common.{◌≡◌, ◌≤◌, filter, length, take}
use Rattle.sp_populate.specs.InnerLists.{is_listed}
use Rattle.sp_populate.proofs.listing.count_listed.Given as goal

abbrev pub invariant-loop-place : goal.invariant-loop-place
invariant-loop-place l = record {
  few : l.count ≤ l.place;
  counted : l.count ≡ length (filter (is_listed l.cut l.filters) (take l.place l.found));
}
