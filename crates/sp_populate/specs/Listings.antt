-- The list, by the serials of its points.
use Rattle.std.specs.Prelude.{◌≡◌, ◌↔◌, ℕ, ◌≤◌, Bool, List, [], map, filter, length, All, Contains, Option, None, Some, ℤ}
use Rattle.std.specs.List.{list_all}
use Rattle.std.specs.List.Sorted.{IsStrictlySortedBy}
use Rattle.sp_model.specs.declared.gaps.Gaps.{Gaps}
use Rattle.sp_model.specs.declared.parts.ModelParts.{ModelParts}
use Rattle.sp_model.specs.Cuts.{cut_of}
use Rattle.sp_model.specs.Models.{IsOptimum}
use Rattle.sp_list.specs.declared.found.Found.{Found}
use Rattle.sp_list.specs.Lists.{IsListAt, point_cmp}
use Rattle.sp_filter.specs.Filters.{is_passed}
use Rattle.sp_filter.specs.Held.{FilterList}
use Rattle.sp_cover.specs.Cover.{found_of}
use Rattle.sp_cover.specs.Listing.{IsListed}
use Rattle.sp_search.specs.States.{StateOf}

-- whether the point passes each filter held
abbrev pub passes : FilterList → List ℤ → Bool
passes fs x = list_all (λ h. is_passed h.filter x) fs.held

-- each point comes before all later ones, by the objective and then lexicographically, and exactly the points are there that
-- are feasible, pass the filters and aren't above the cut
pub record IsPassedList (m : ModelParts) (cut : ℤ) (fs : FilterList) (xs : List (List ℤ)) : Type 0 where
  pub ascending : IsStrictlySortedBy (point_cmp m) xs
  pub exact : (x : List ℤ) → Contains xs x ↔ IsListed m cut fs x

-- the same at the cut of the optimum under the gaps, and the empty list where there is no optimum
abbrev pub IsPassedListAt : ModelParts → Gaps → FilterList → Option ℤ → List (List ℤ) → Type 0
IsPassedListAt m gaps fs None xs = xs ≡ []
IsPassedListAt m gaps fs (Some best) xs = IsPassedList m (cut_of best gaps m.scale) fs xs

-- the points of these serials
abbrev pub points_at : List Found → List ℕ → List (List ℤ)
points_at found serials = map (λ serial. (found_of found serial).point) serials

-- a serial of one of so many points
pub record IsSerial (count serial : ℕ) : Type 0 where
  pub first : 1 ≤ serial
  pub last : serial ≤ count

-- the least value found is the optimum, and these are the serials of the listed points, in the list's order
pub record IsListing (s : StateOf) (gaps : Gaps) (fs : FilterList) (serials : List ℕ) : Type 0 where
  pub optimum : IsOptimum s.model s.search.best
  pub known : All (IsSerial (length s.search.found)) serials
  pub listed : IsPassedListAt s.model gaps fs s.search.best (points_at s.search.found serials)

-- the points of the list under the gaps that pass the filters, in its order
pub record IsFiltered (m : ModelParts) (gaps : Gaps) (fs : FilterList) (best : Option ℤ) (xs : List (List ℤ)) : Type 0 where
  pub whole : List (List ℤ)
  pub listed : IsListAt m gaps best whole
  pub filtered : xs ≡ filter (passes fs) whole
