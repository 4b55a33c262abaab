-- The order of the list, that one list fits at most, and that found points in this order are the list.
use Rattle.std.proofs.Common.{◌≡◌, ◌≢◌, ◌+◌, ◌<◌, zero-le, List, [], ◌∷◌, length, get_or, refl, sym, ap, ap₂, ◌∙◌, subst, All, AllPairs, Ordering, Less, Equal, Greater, is_lt, ℤ, pos, ◌≤ℤ◌, arith, IsPermutation, IsSorted, int_cmp}
use Rattle.std.specs.Cmp.{IsTotalOrder}
use Rattle.std.specs.List.Sorted.{IsStrictlySortedBy}
use Rattle.std.specs.Ordering.{eq_by_cmp, ordering_then}
use Rattle.std.proofs.lemmas.Cmp.{int_cmp_total, lists_total, then_total, on_total, eq_by_cmp_equiv}
use Rattle.std.proofs.lemmas.List.{get_or-map, length-map}
use Rattle.std.proofs.lemmas.List.Elements.{All-contains, All-map}
use Rattle.std.proofs.lemmas.List.Sorted.{All-permutation, Contains-permutation, IsPermutation-map}
use Rattle.std.proofs.lemmas.Map.Keys.{IsDistinct-IsPermutation, sorted_from_all_adjacent}
use Rattle.std.proofs.lemmas.Map.Lookups.{exact_signed}
use Rattle.sp_list.specs.declared.found.Found.{Found}
use Rattle.sp_model.specs.declared.parts.ModelParts.{ModelParts}
use Rattle.sp_model.specs.Models.{objective}
use Rattle.sp_model.specs.Boxes.{lex_cmp}
use Rattle.sp_list.specs.Lists.{point_cmp, found_cmp, IsKept, IsList, IsFoundList, IsFoundEnough, AreValued, points_of}
use Rattle.sp_list.proofs.OrderLemmas.{same_sorted, less_from}
use Rattle.sp_list.proofs.MemberLemmas.{distinct_from_pairs, pairs_from_distinct, pairs_of_map}

pub then_equal : (a b : Ordering) → ordering_then a b ≡ Equal → (a ≡ Equal) × (b ≡ Equal)
then_equal Less b e = cc
then_equal Equal b e = (refl, e)
then_equal Greater b e = cc

pub lex_total : IsTotalOrder lex_cmp
lex_total = lists_total int_cmp_total

pub lex_exact : (x y : List ℤ) → lex_cmp x y ≡ Equal → x ≡ y
lex_exact [] [] e = refl
lex_exact [] (y ∷ ys) e = cc
lex_exact (x ∷ xs) [] e = cc
lex_exact (x ∷ xs) (y ∷ ys) e =
    let parts = then_equal (int_cmp x y) (lex_cmp xs ys) e in
    ap (λ v. v ∷ xs) (exact_signed x y parts.0) ∙ ap (λ vs. y ∷ vs) (lex_exact xs ys parts.1)

pub points_total : (m : ModelParts) → IsTotalOrder (point_cmp m)
points_total m = then_total (on_total (objective m) int_cmp_total) lex_total

pub points_exact : (m : ModelParts) (x y : List ℤ) → point_cmp m x y ≡ Equal → x ≡ y
points_exact m x y e = lex_exact x y (then_equal (int_cmp (objective m x) (objective m y)) (lex_cmp x y) e).1

-- at most one list fits
pub unique : (m : ModelParts) (cut : ℤ) (xs ys : List (List ℤ)) → IsList m cut xs → IsList m cut ys → xs ≡ ys
unique m cut xs ys s t =
    same_sorted (points_total m) xs ys s.ascending t.ascending
    (λ z. (λ h. (t.exact z).1 ((s.exact z).0 h), λ h. (s.exact z).1 ((t.exact z).0 h)))

-- sorted, and none twice
pub strict_from_sorted : (m : ModelParts) (xs : List (List ℤ)) → IsSorted (point_cmp m) xs → AllPairs (λ x y. x ≢ y) xs → IsStrictlySortedBy (point_cmp m) xs
strict_from_sorted m xs sorted apart =
    sorted_from_all_adjacent (points_total m) xs []
    (λ k long. less_from (points_total m) (points_exact m) _ _ (sorted k [] zero-le long) (apart k (k + 1) [] (omega arith) long))

-- a permutation keeps that none stands twice
pub once_permuted : (xs ys : List (List ℤ)) → IsPermutation xs ys → AllPairs (λ x y. x ≢ y) xs → AllPairs (λ x y. x ≢ y) ys
once_permuted xs ys p once =
    pairs_from_distinct lex_total ys
    (IsDistinct-IsPermutation (eq_by_cmp lex_cmp) (λ x y. (eq_by_cmp_equiv lex_total).symm x y) xs ys p (distinct_from_pairs lex_exact xs once))

-- the order of two found points is that of their points
pub alike : (m : ModelParts) (f g : Found) → f.value ≡ objective m f.point → g.value ≡ objective m g.point → found_cmp f g ≡ point_cmp m f.point g.point
alike m f g e k = ap₂ (λ v w. ordering_then (int_cmp v w) (lex_cmp f.point g.point)) e k

abbrev no_find : Found
no_find = record { point = []; value = pos 0 }

-- found points in order have their points in order
pub points_sorted : (m : ModelParts) (found : List Found) → AreValued m found → IsSorted found_cmp found → IsSorted (point_cmp m) (points_of found)
points_sorted m found valued sorted k d low long =
    let after : k + 1 < length found = (rw length-map at long) in
    let here : k < length found = omega arith in
    rw (get_or-map (λ f. f.point) found (k + 1) no_find d after, get_or-map (λ f. f.point) found k no_find d here)
    (sym (ap is_lt (alike m (get_or found (k + 1) no_find) (get_or found k no_find) (valued (k + 1) no_find after) (valued k no_find here)))
    ∙ sorted k no_find low after)

-- enough found points, none above the cut, in order
pub found_list : (m : ModelParts) (cut : ℤ) (found sorted : List Found) → IsPermutation found sorted → IsSorted found_cmp sorted → IsFoundEnough m cut found → All (λ f. f.value ≤ℤ cut) found → IsFoundList m cut sorted
found_list m cut found sorted moved ordered enough near =
    let valued : AreValued m sorted = All-permutation (λ f. f.value ≡ objective m f.point) found sorted moved enough.valued in
    let points_moved : IsPermutation (points_of found) (points_of sorted) = IsPermutation-map (λ f. f.point) found sorted moved in
    let kept : All (λ f. IsKept m cut f.point) found =
    λ k d h. record { feasible = enough.feasible k d h; near = subst (λ v. v ≤ℤ cut) (enough.valued k d h) (near k d h) } in
    let all_kept : All (IsKept m cut) (points_of sorted) =
    All-map (IsKept m cut) (λ f. f.point) sorted (All-permutation (λ f. IsKept m cut f.point) found sorted moved kept) in
    record {
      valued = valued;
      points = record {
        ascending = strict_from_sorted m (points_of sorted) (points_sorted m sorted valued ordered)
            (once_permuted (points_of found) (points_of sorted) points_moved (pairs_of_map (λ f. f.point) found enough.once no_find));
        exact = λ x. (
          λ h. All-contains (IsKept m cut) (points_of sorted) x all_kept h,
          λ h. Contains-permutation (points_of found) (points_of sorted) x points_moved (enough.enough x h),
        );
      };
    }

pub found_total : IsTotalOrder found_cmp
found_total = then_total (on_total (λ f. f.value) int_cmp_total) (on_total (λ f. f.point) lex_total)
