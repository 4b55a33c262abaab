-- What private functions of the list say.
use Rattle.std.specs.Prelude.{◌≡◌, ℕ, ◌≤◌, Bool, ◌&&◌, List, map, filter, length, All, ℤ, int_le, IsPermutation, IsSorted}
use Rattle.std.specs.Borrow.{Bor}
use Rattle.sp_list.specs.declared.found.Found.{Found}
use Rattle.sp_list.specs.Lists.{found_cmp}
use Rattle.sp_filter.specs.Held.{FilterList}
use Rattle.sp_cover.specs.Cover.{found_of}
use Rattle.sp_populate.specs.Listings.{IsSerial, passes}

-- whether the point passes the filters and isn't above the cut
abbrev pub is_listed : ℤ → FilterList → Found → Bool
is_listed cut fs f = int_le f.value cut && passes fs f.point

-- the found point beside its serial
pub record IsNamed (found : List Found) (r : ℕ × Bor Found) : Type 0 where
  pub first : 1 ≤ r.0
  pub last : r.0 ≤ length found
  pub is : found_of found r.0 ≡ r.1.now

-- the found points to list, in the order in which they were found, each beside its serial
pub record IsRanking (found : List Found) (cut : ℤ) (fs : FilterList) (rs : List (ℕ × Bor Found)) : Type 0 where
  pub named : All (IsNamed found) rs
  pub chosen : map (λ r. r.1.now) rs ≡ filter (is_listed cut fs) found

-- these are the serials of the found points to list, in the list's order
pub record IsSorting (found : List Found) (cut : ℤ) (fs : FilterList) (serials : List ℕ) : Type 0 where
  pub known : All (IsSerial (length found)) serials
  pub same : IsPermutation (filter (is_listed cut fs) found) (map (found_of found) serials)
  pub sorted : IsSorted found_cmp (map (found_of found) serials)
