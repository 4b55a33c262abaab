-- The list: each kept point once, best objective first and then lexicographically.
use Rattle.std.specs.Prelude.{◌≡◌, ◌≢◌, ◌↔◌, ℕ, List, [], ◌∷◌, map, filter, take, fold, All, AllPairs, Contains, Bool, ◌&&◌, cond, IsTrue, Option, None, Some, ℤ, ◌≤ℤ◌, int_le}
use Rattle.std.specs.Int.{int_min}
use Rattle.std.specs.List.Sorted.{IsStrictlySortedBy, IsSortedByKey, IsStableByKey, IsPermutation}
use Rattle.std.specs.Ordering.{int_cmp, ordering_then}
use Rattle.std.specs.declared.cmp.Ordering.{Ordering}
use Rattle.sp_list.specs.declared.found.Found.{Found}
use Rattle.sp_model.specs.declared.gaps.Gaps.{Gaps}
use Rattle.sp_model.specs.declared.parts.ModelParts.{ModelParts}
use Rattle.sp_model.specs.Boxes.{lex_cmp, lies_in}
use Rattle.sp_model.specs.Cuts.{cut_of}
use Rattle.sp_model.specs.Models.{Feasible, objective, IsOptimum, constraints_hold, feasible_points, root_of}

-- by the objective, then lexicographically
abbrev pub point_cmp : ModelParts → List ℤ → List ℤ → Ordering
point_cmp m x y = ordering_then (int_cmp (objective m x) (objective m y)) (lex_cmp x y)

-- the point is feasible, and its objective isn't above the cut
pub record IsKept (m : ModelParts) (cut : ℤ) (x : List ℤ) : Type 0 where
  pub feasible : Feasible m x
  pub near : objective m x ≤ℤ cut

-- each point comes before all later ones, and exactly the kept points are there
pub record IsList (m : ModelParts) (cut : ℤ) (xs : List (List ℤ)) : Type 0 where
  pub ascending : IsStrictlySortedBy (point_cmp m) xs
  pub exact : (x : List ℤ) → Contains xs x ↔ IsKept m cut x

-- the list at the cut of the optimum under the gaps, and the empty one where there is no optimum
abbrev pub IsListAt : ModelParts → Gaps → Option ℤ → List (List ℤ) → Type 0
IsListAt m gaps None xs = xs ≡ []
IsListAt m gaps (Some best) xs = IsList m (cut_of best gaps m.scale) xs

-- the list under the gaps, at the model's own optimum
pub record IsListWithin (m : ModelParts) (gaps : Gaps) (xs : List (List ℤ)) : Type 0 where
  pub best : Option ℤ
  pub optimum : IsOptimum m best
  pub listed : IsListAt m gaps best xs

-- the points of what was found
abbrev pub points_of : List Found → List (List ℤ)
points_of found = map (λ f. f.point) found

-- each point has its objective beside it
abbrev pub AreValued : ModelParts → List Found → Type 0
AreValued m found = All (λ f. f.value ≡ objective m f.point) found

-- each point with its objective, and the points are the list
pub record IsFoundList (m : ModelParts) (cut : ℤ) (found : List Found) : Type 0 where
  pub valued : AreValued m found
  pub points : IsList m cut (points_of found)

-- in any order: each point with its objective, all feasible, none twice, and none missing that is kept; more may be there
pub record IsFoundEnough (m : ModelParts) (cut : ℤ) (found : List Found) : Type 0 where
  pub valued : AreValued m found
  pub feasible : All (λ f. Feasible m f.point) found
  pub once : AllPairs (λ f g. f.point ≢ g.point) found
  pub enough : (x : List ℤ) → IsKept m cut x → Contains (points_of found) x

-- in any order: each point with its objective, all feasible, and every feasible point is there
pub record IsFoundAll (m : ModelParts) (found : List Found) : Type 0 where
  pub valued : AreValued m found
  pub feasible : All (λ f. Feasible m f.point) found
  pub whole : (x : List ℤ) → Feasible m x → Contains (points_of found) x

-- those whose value isn't above the cut, in their order
abbrev pub found_within : ℤ → List Found → List Found
found_within cut found = filter (λ f. int_le f.value cut) found

-- in any order: none twice, and exactly the points that pass the test
pub record IsSetOf (test : List ℤ → Bool) (xs : List (List ℤ)) : Type 0 where
  pub once : AllPairs (λ x y. x ≢ y) xs
  pub exact : (x : List ℤ) → Contains xs x ↔ IsTrue (test x)

-- by the objective, then lexicographically, for points with their objectives
abbrev pub found_cmp : Found → Found → Ordering
found_cmp f g = ordering_then (int_cmp f.value g.value) (lex_cmp f.point g.point)

-- a kept point, as a test
abbrev pub is_kept : ModelParts → ℤ → List ℤ → Bool
is_kept m cut x = (lies_in (root_of m) x && constraints_hold m x) && int_le (objective m x) cut

-- the feasible points in lexicographic order, without those above the cut
abbrev pub kept : ModelParts → ℤ → List (List ℤ)
kept m cut = filter (λ x. int_le (objective m x) cut) (feasible_points m)

-- the kept points in lexicographic order, stably ordered by the objective
pub record IsSortedWalk (m : ModelParts) (cut : ℤ) (xs : List (List ℤ)) : Type 0 where
  pub same : IsPermutation (kept m cut) xs
  pub ordered : IsSortedByKey (objective m) int_cmp xs
  pub stable : IsStableByKey (objective m) int_cmp (kept m cut) xs

-- a point put before the first one whose objective isn't less than its own
abbrev pub placed : ModelParts → List ℤ → List (List ℤ) → List (List ℤ)
placed m x [] = x ∷ []
placed m x (y ∷ ys) = cond (int_le (objective m x) (objective m y)) (x ∷ y ∷ ys) (y ∷ placed m x ys)

-- stably ordered by the objective
abbrev pub by_objective : ModelParts → List (List ℤ) → List (List ℤ)
by_objective m [] = []
by_objective m (x ∷ xs) = placed m x (by_objective m xs)

-- the list as a function: the kept points in lexicographic order, stably ordered by the objective
abbrev pub list_of : ModelParts → ℤ → List (List ℤ)
list_of m cut = by_objective m (kept m cut)

-- the least of the numbers, none where there are none
abbrev pub least_number : List ℤ → Option ℤ
least_number [] = None
least_number (v ∷ vs) = Some (fold int_min v vs)

-- the optimum as a function
abbrev pub optimum_of : ModelParts → Option ℤ
optimum_of m = least_number (map (objective m) (feasible_points m))

-- the list under the gaps at this optimum
abbrev pub list_at : ModelParts → Gaps → Option ℤ → List (List ℤ)
list_at m gaps None = []
list_at m gaps (Some best) = list_of m (cut_of best gaps m.scale)

-- the list under the gaps as a function
abbrev pub list_within_of : ModelParts → Gaps → List (List ℤ)
list_within_of m gaps = list_at m gaps (optimum_of m)

-- the first k of the list under the gaps, or all of it where it is shorter
pub record IsBest (m : ModelParts) (gaps : Gaps) (k : ℕ) (xs : List (List ℤ)) : Type 0 where
  pub whole : List (List ℤ)
  pub listed : IsListWithin m gaps whole
  pub first : xs ≡ take k whole

-- a point with its objective
abbrev pub found_at : ModelParts → List ℤ → Found
found_at m x = record { point = x; value = objective m x }

-- the feasible points of a model in lexicographic order, with their objectives
abbrev pub found_points : ModelParts → List Found
found_points m = map (found_at m) (feasible_points m)
