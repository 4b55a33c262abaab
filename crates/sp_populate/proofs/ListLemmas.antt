-- Serials in the list's order are the list.
use Rattle.std.proofs.Common.{◌≡◌, ◌≢◌, ℕ, zero, suc, ◌+◌, ◌<◌, true, false, List, [], ◌∷◌, map, filter, length, get_or, slice_index_or, All, AllPairs, Contains, Ordering, Less, Equal, Greater, is_lt, is_eq, Option, None, Some, ℤ, ◌≤ℤ◌, int_cmp, IsPermutation, IsSorted, refl, sym, ap, ap₂, ◌∙◌, subst, arith, zero-le}
use Rattle.std.specs.Cmp.{IsTotalOrder}
use Rattle.std.specs.List.{IsDistinct}
use Rattle.std.specs.List.Sorted.{IsStrictlySortedBy}
use Rattle.std.specs.Ordering.{eq_by_cmp, ordering_reverse, ordering_then}
use Rattle.std.proofs.lemmas.Bool.{false_from_ne_true}
use Rattle.std.proofs.lemmas.Cmp.{int_cmp_total, lists_total, then_total, on_total, eq_by_cmp_equiv}
use Rattle.std.proofs.lemmas.List.{get_or-map, length-map}
use Rattle.std.proofs.lemmas.List.Elements.{All-contains, All-filter, All-head, All-map, filter_passes}
use Rattle.std.proofs.lemmas.List.Kept.{AllPairs-filter}
use Rattle.std.proofs.lemmas.List.Sorted.{All-permutation, Contains-permutation, IsPermutation-map}
use Rattle.std.proofs.lemmas.Map.Keys.{IsDistinct-IsPermutation, IsDistinct-from_apart, apart_from_distinct, sorted_from_all_adjacent}
use Rattle.std.proofs.lemmas.Map.Lookups.{exact_signed}
use Rattle.sp_model.specs.declared.gaps.Gaps.{Gaps}
use Rattle.sp_model.specs.declared.parts.ModelParts.{ModelParts}
use Rattle.sp_model.specs.Boxes.{lex_cmp}
use Rattle.sp_model.specs.Models.{Feasible, IsOptimum, objective}
use Rattle.sp_list.specs.declared.found.Found.{Found}
use Rattle.sp_list.specs.Lists.{found_cmp, point_cmp, points_of}
use Rattle.sp_filter.specs.Held.{FilterList, Passes}
use Rattle.sp_cover.specs.Cover.{IsBest, found_of, no_found}
use Rattle.sp_cover.specs.Listing.{AreFound, IsListed, WasFound}
use Rattle.sp_search.specs.States.{StateOf}
use Rattle.sp_populate.specs.Complete.{cut_at, cut_under}
use Rattle.sp_populate.specs.Listings.{IsListing, IsPassedList, IsPassedListAt, IsSerial, points_at}
use Rattle.sp_populate.specs.InnerLists.{IsSorting, is_listed}
use Rattle.sp_populate.proofs.TestLemmas.{listed-from, listed-parts}
use Rattle.sp_populate.proofs.MemberLemmas.{Contains-map, contains_filter}

-- ---- orders

pub lex_total : IsTotalOrder lex_cmp
lex_total = lists_total int_cmp_total

pub found_total : IsTotalOrder found_cmp
found_total = then_total (on_total (λ f. f.value) int_cmp_total) (on_total (λ f. f.point) lex_total)

pub points_total : (m : ModelParts) → IsTotalOrder (point_cmp m)
points_total m = then_total (on_total (objective m) int_cmp_total) lex_total

both_equal : (a b : Ordering) → ordering_then a b ≡ Equal → (a ≡ Equal) × (b ≡ Equal)
both_equal Less b e = cc
both_equal Equal b e = (refl, e)
both_equal Greater b e = cc

lex_exact : (x y : List ℤ) → lex_cmp x y ≡ Equal → x ≡ y
lex_exact [] [] e = refl
lex_exact [] (y ∷ ys) e = cc
lex_exact (x ∷ xs) [] e = cc
lex_exact (x ∷ xs) (y ∷ ys) e =
    let parts = both_equal (int_cmp x y) (lex_cmp xs ys) e in
    ap (λ v. v ∷ xs) (exact_signed x y parts.0) ∙ ap (λ vs. y ∷ vs) (lex_exact xs ys parts.1)

is_equal : (o : Ordering) → is_eq o ≡ true → o ≡ Equal
is_equal Less e = cc
is_equal Equal e = refl
is_equal Greater e = cc

then_apart : (a b : Ordering) → is_eq b ≡ false → is_eq (ordering_then a b) ≡ false
then_apart Less b e = refl
then_apart Equal b e = e
then_apart Greater b e = refl

less_case : (a b : Ordering) → a ≡ ordering_reverse b → is_lt b ≡ false → is_eq a ≡ false → a ≡ Less
less_case a Less e late apart = cc
less_case a Equal e late apart = cc
less_case a Greater e late apart = e

-- sorted, and none twice
strict : (m : ModelParts) (xs : List (List ℤ)) → IsSorted (point_cmp m) xs → IsDistinct (eq_by_cmp lex_cmp) xs → IsStrictlySortedBy (point_cmp m) xs
strict m xs sorted apart =
    sorted_from_all_adjacent (points_total m) xs []
    (λ k long. less_case _ _ ((points_total m).antisymm (get_or xs k []) (get_or xs (k + 1) [])) (sorted k [] zero-le long)
    (then_apart (int_cmp (objective m (get_or xs k [])) (objective m (get_or xs (k + 1) []))) (lex_cmp (get_or xs k []) (get_or xs (k + 1) []))
    (apart_from_distinct (eq_by_cmp lex_cmp) xs k (k + 1) [] apart (omega arith) long)))

-- ---- points of found points

-- points that differ are told apart
distinct_points : (found : List Found) → AllPairs (λ f g. f.point ≢ g.point) found → IsDistinct (eq_by_cmp lex_cmp) (points_of found)
distinct_points found once =
    IsDistinct-from_apart (eq_by_cmp lex_cmp) (points_of found)
    (λ i j d lt long.
    let j_in : j < length found = rw length-map at long in
    let i_in : i < length found = omega (arith, lt, j_in) in
    false_from_ne_true _ (λ t. once i j no_found lt j_in
    (sym (get_or-map (λ f. f.point) found i no_found d i_in) ∙ lex_exact (get_or (points_of found) i d) (get_or (points_of found) j d) (is_equal _ t) ∙ get_or-map (λ f. f.point) found j no_found d j_in)))

alike : (m : ModelParts) (f g : Found) → f.value ≡ objective m f.point → g.value ≡ objective m g.point → found_cmp f g ≡ point_cmp m f.point g.point
alike m f g e k = ap₂ (λ v w. ordering_then (int_cmp v w) (lex_cmp f.point g.point)) e k

points_sorted : (m : ModelParts) (found : List Found) → All (λ f. f.value ≡ objective m f.point) found → IsSorted found_cmp found → IsSorted (point_cmp m) (points_of found)
points_sorted m found valued sorted k d low long =
    let after : k + 1 < length found = (rw length-map at long) in
    let here : k < length found = omega arith in
    rw (get_or-map (λ f. f.point) found (k + 1) no_found d after, get_or-map (λ f. f.point) found k no_found d here)
    (sym (ap is_lt (alike m (get_or found (k + 1) no_found) (get_or found k no_found) (valued (k + 1) no_found after) (valued k no_found here)))
    ∙ sorted k no_found low after)

-- ---- the list

pub get_or-default : (found : List Found) (k : ℕ) (d e : Found) → k < length found → get_or found k d ≡ get_or found k e
get_or-default [] k d e h = absurd (omega (arith, h))
get_or-default (f ∷ found) zero d e h = refl
get_or-default (f ∷ found) (suc k) d e h = get_or-default found k d e (omega (arith, h))

-- facts of each found point, with any default
pub each : (P : Found → Type 0) (found : List Found) → ((k : ℕ) → k < length found → P (slice_index_or found k no_found)) → All P found
each P found h k d k-in = rw (get_or-default found k d no_found k-in) (h k k-in)

pairs : (found : List Found) → ((k l : ℕ) → k < l → l < length found → (slice_index_or found k no_found).point ≢ (slice_index_or found l no_found).point) → AllPairs (λ f g. f.point ≢ g.point) found
pairs found h i j d lt j-in =
    rw (get_or-default found i d no_found (omega (arith, lt, j-in)), get_or-default found j d no_found j-in) (h i j lt j-in)

-- what it takes for a found point to be listed
listed_point : (m : ModelParts) (cut : ℤ) (fs : FilterList) (f : Found) → Feasible m f.point → objective m f.point ≡ f.value → is_listed cut fs f ≡ true → IsListed m cut fs f.point
listed_point m cut fs f feasible value test =
    let parts = listed-parts cut fs f test in
    record { feasible = feasible; passes = parts.1; near = subst (λ v. v ≤ℤ cut) (sym value) parts.0 }

-- a listed point that was found is kept
was_kept : (m : ModelParts) (cut : ℤ) (fs : FilterList) (found : List Found) (x : List ℤ) → IsListed m cut fs x → WasFound m found x → Contains (points_of (filter (is_listed cut fs) found)) x
was_kept m cut fs found x h w =
    let f = slice_index_or found w.place no_found in
    let near : f.value ≤ℤ cut = rw w.value h.near in
    let passes : Passes fs.held f.point = rw w.point h.passes in
    let there : Contains found f = (w.place, w.known, get_or-default found w.place f no_found w.known) in
    subst (λ y. Contains (points_of (filter (is_listed cut fs) found)) y) w.point
    (Contains-map (λ (g : Found). g.point) (filter (is_listed cut fs) found) f (contains_filter (is_listed cut fs) found f (listed-from cut fs f near passes) there))

-- the chosen points, sorted
pub passed_list : (m : ModelParts) (cut : ℤ) (fs : FilterList) (found chosen : List Found) → AreFound m found → ((x : List ℤ) → IsListed m cut fs x → WasFound m found x)
    → IsPermutation (filter (is_listed cut fs) found) chosen → IsSorted found_cmp chosen → IsPassedList m cut fs (points_of chosen)
passed_list m cut fs found chosen are there moved ordered =
    let kept = filter (is_listed cut fs) found in
    let valued : All (λ f. objective m f.point ≡ f.value) found = each (λ f. objective m f.point ≡ f.value) found are.value in
    let feasible : All (λ f. Feasible m f.point) found = each (λ f. Feasible m f.point) found are.feasible in
    let valued_kept = All-filter (is_listed cut fs) (λ f. objective m f.point ≡ f.value) found valued in
    let feasible_kept = All-filter (is_listed cut fs) (λ f. Feasible m f.point) found feasible in
    let tested : All (λ f. is_listed cut fs f ≡ true) kept = filter_passes (is_listed cut fs) found in
    let listed : All (λ f. IsListed m cut fs f.point) kept = λ k d h. listed_point m cut fs _ (feasible_kept k d h) (valued_kept k d h) (tested k d h) in
    let moved_values : All (λ f. objective m f.point ≡ f.value) chosen = All-permutation (λ f. objective m f.point ≡ f.value) kept chosen moved valued_kept in
    let points_moved : IsPermutation (points_of kept) (points_of chosen) = IsPermutation-map (λ f. f.point) kept chosen moved in
    let apart : IsDistinct (eq_by_cmp lex_cmp) (points_of kept) = distinct_points kept (AllPairs-filter (λ f g. f.point ≢ g.point) (is_listed cut fs) found (pairs found are.once)) in
    record {
      ascending = strict m (points_of chosen) (points_sorted m chosen (λ k d h. sym (moved_values k d h)) ordered)
          (IsDistinct-IsPermutation (eq_by_cmp lex_cmp) (λ x y. (eq_by_cmp_equiv lex_total).symm x y) (points_of kept) (points_of chosen) points_moved apart);
      exact = λ x. (
        λ h. All-contains (IsListed m cut fs) (points_of chosen) x (All-map (IsListed m cut fs) (λ f. f.point) chosen (All-permutation (λ f. IsListed m cut fs f.point) kept chosen moved listed)) h,
        λ h. Contains-permutation (points_of kept) (points_of chosen) x points_moved (was_kept m cut fs found x h (there x h)),
      );
    }

pub points_mapped : (found : List Found) (serials : List ℕ) → points_of (map (found_of found) serials) ≡ points_at found serials
points_mapped found [] = refl
points_mapped found (s ∷ serials) = ap (λ xs. (found_of found s).point ∷ xs) (points_mapped found serials)

pub none-listed : (found : List Found) (serials : List ℕ) → found ≡ [] → All (IsSerial (length found)) serials → points_at found serials ≡ []
none-listed found [] e all = refl
none-listed found (s ∷ serials) e all =
    let n = All-head (IsSerial (length found)) s serials all in
    let first = n.first in
    let last = n.last in
    let none = ap length e in
    absurd (omega (arith, first, last, none))

passed_at : (m : ModelParts) (gaps : Gaps) (fs : FilterList) (best : Option ℤ) (found : List Found) (serials : List ℕ) → IsBest found best → All (IsSerial (length found)) serials
    → IsPassedList m (cut_at gaps m.scale best) fs (points_at found serials) → IsPassedListAt m gaps fs best (points_at found serials)
passed_at m gaps fs None found serials is all h = none-listed found serials is all
passed_at m gaps fs (Some best) found serials is all h = h

-- what the laws of a search with a complete tree say of it
pub record IsSolved (s : StateOf) (gaps : Gaps) (fs : FilterList) : Type 0 where
  pub are : AreFound s.model s.search.found
  pub there : (x : List ℤ) → IsListed s.model (cut_under gaps s) fs x → WasFound s.model s.search.found x
  pub optimum : IsOptimum s.model s.search.best
  pub best : IsBest s.search.found s.search.best

pub listing : (s : StateOf) (gaps : Gaps) (fs : FilterList) (serials : List ℕ) → IsSolved s gaps fs → IsSorting s.search.found (cut_under gaps s) fs serials → IsListing s gaps fs serials
listing s gaps fs serials h sorted =
    let found = s.search.found in
    let chosen = map (found_of found) serials in
    record {
      optimum = h.optimum;
      known = sorted.known;
      listed = passed_at s.model gaps fs s.search.best found serials h.best sorted.known
          (rw (← points_mapped found serials) (passed_list s.model (cut_under gaps s) fs found chosen h.are h.there sorted.same sorted.sorted));
    }
