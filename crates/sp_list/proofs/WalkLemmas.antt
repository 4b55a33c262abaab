-- The walk over the points of the bounds, kept and put in order, is the list.
use Rattle.std.proofs.Common.{◌≡◌, ◌≢◌, ℕ, ◌+◌, ◌<◌, zero-le, true, false, ◌&&◌, List, [], filter, length, get_or, refl, ap, ap₂, ◌∙◌, ◌↔◌, AllPairs, Contains, Ordering, Less, Equal, Greater, is_lt, ℤ, int_le, arith, IsSortedBy, int_cmp, not}
use Rattle.std.specs.List.Sorted.{IsStrictlySortedBy}
use Rattle.std.specs.Ordering.{ordering_then, ordering_reverse}
use Rattle.std.proofs.lemmas.Cmp.{int_cmp_total, tied_back}
use Rattle.std.proofs.lemmas.List.Kept.{IsStrictlySortedBy-filter}
use Rattle.std.proofs.lemmas.List.Sorted.{Contains-permutation, IsPermutation-sym, ties_stay_sorted, ranks_by}
use Rattle.std.proofs.lemmas.Map.Keys.{IsDistinct-from_sorted, Less-from_sorted, sorted_from_all_adjacent}
use Rattle.sp_model.specs.declared.parts.ModelParts.{ModelParts}
use Rattle.sp_model.specs.Boxes.{points}
use Rattle.sp_model.specs.Models.{Feasible, objective, root_of}
use Rattle.sp_model.specs.Boxes.{lex_cmp}
use Rattle.sp_model.specs.Models.{constraints_hold, feasible_points}
use Rattle.sp_list.specs.Lists.{point_cmp, IsKept, IsList, IsSortedWalk, kept}
use Rattle.sp_list.proofs.ContainsLemmas.{le_test, test_le}
use Rattle.sp_list.proofs.ListLemmas.{lex_total, lex_exact, points_total, once_permuted}
use Rattle.sp_list.proofs.MemberLemmas.{contains_filter, contains_before_filter, passes_filter, pairs_from_distinct}
use Rattle.sp_list.proofs.OrderLemmas.{less_from}

-- the feasible points in lexicographic order are all there are
pub record IsWalk (m : ModelParts) : Type 0 where
  pub members : (x : List ℤ) → Contains (feasible_points m) x ↔ Feasible m x
  pub rising : IsStrictlySortedBy lex_cmp (feasible_points m)

-- the walk keeps exactly the kept points
pub contains_kept : (m : ModelParts) → IsWalk m → (cut : ℤ) (x : List ℤ) → Contains (kept m cut) x ↔ IsKept m cut x
contains_kept m walk cut x = (
  λ h.
      record {
        feasible = (walk.members x).0 (contains_before_filter (λ y. int_le (objective m y) cut) (feasible_points m) x h);
        near = test_le (objective m x) cut (passes_filter (λ y. int_le (objective m y) cut) (feasible_points m) x h);
      },
  λ k.
      contains_filter (λ y. int_le (objective m y) cut) (feasible_points m) x (le_test (objective m x) cut k.near) ((walk.members x).1 k.feasible),
)

-- and in lexicographic order
pub kept_rises : (m : ModelParts) → IsWalk m → (cut : ℤ) → IsStrictlySortedBy lex_cmp (kept m cut)
kept_rises m walk cut = IsStrictlySortedBy-filter lex_cmp (λ x. int_le (objective m x) cut) (feasible_points m) walk.rising

-- none of them twice
pub kept_once : (m : ModelParts) → IsWalk m → (cut : ℤ) → AllPairs (λ x y. x ≢ y) (kept m cut)
kept_once m walk cut = pairs_from_distinct lex_total (kept m cut) (IsDistinct-from_sorted lex_cmp (kept m cut) (kept_rises m walk cut))

-- what isn't greater and isn't equal is less
step_less : (a b c : Ordering) → a ≡ ordering_reverse b → is_lt b ≡ false → (a ≡ Equal → c ≡ Less) → ordering_then a c ≡ Less
step_less a Less c e late equal = cc
step_less a Equal c e late equal = rw (e, equal e) refl
step_less a Greater c e late equal = rw e refl

-- no later point of a strictly ascending list is less
pub sorted_from_strict : (xs : List (List ℤ)) → IsStrictlySortedBy lex_cmp xs → IsSortedBy (λ a b. is_lt (lex_cmp a b)) xs
sorted_from_strict xs strict k d low long =
    ap is_lt (lex_total.antisymm (get_or xs (k + 1) d) (get_or xs k d) ∙ ap ordering_reverse (Less-from_sorted lex_cmp xs k (k + 1) d strict (omega arith) long))

ties_from : (a b : Ordering) → a ≡ Equal → b ≡ Equal → (not (is_lt a) && not (is_lt b)) ≡ true
ties_from a b e k = ap₂ (λ v w. not (is_lt v) && not (is_lt w)) e k

-- among equal objectives a stable order keeps the lexicographic one
pub ties_rise : (m : ModelParts) → IsWalk m → (cut : ℤ) (xs : List (List ℤ)) → IsSortedWalk m cut xs → (k : ℕ) → k + 1 < length xs → int_cmp (objective m (get_or xs k [])) (objective m (get_or xs (k + 1) [])) ≡ Equal → is_lt (lex_cmp (get_or xs (k + 1) []) (get_or xs k [])) ≡ false
ties_rise m walk cut xs w k long tied =
    ties_stay_sorted (λ a b. is_lt (lex_cmp a b)) (λ a b. is_lt (int_cmp (objective m a) (objective m b)))
    (ranks_by lex_total (λ (x : List ℤ). x)) (ranks_by int_cmp_total (objective m)) (kept m cut) xs
    (sorted_from_strict (kept m cut) (kept_rises m walk cut)) w.stable k [] long
    (ties_from (int_cmp (objective m (get_or xs k [])) (objective m (get_or xs (k + 1) []))) (int_cmp (objective m (get_or xs (k + 1) [])) (objective m (get_or xs k []))) tied
    (tied_back int_cmp_total (objective m (get_or xs k [])) (objective m (get_or xs (k + 1) [])) tied))

pub walk_ascends : (m : ModelParts) → IsWalk m → (cut : ℤ) (xs : List (List ℤ)) → IsSortedWalk m cut xs → IsStrictlySortedBy (point_cmp m) xs
walk_ascends m walk cut xs w =
    let apart : AllPairs (λ x y. x ≢ y) xs = once_permuted (kept m cut) xs w.same (kept_once m walk cut) in
    sorted_from_all_adjacent (points_total m) xs [] (λ k long.
    step_less (int_cmp (objective m (get_or xs k [])) (objective m (get_or xs (k + 1) []))) (int_cmp (objective m (get_or xs (k + 1) [])) (objective m (get_or xs k [])))
    (lex_cmp (get_or xs k []) (get_or xs (k + 1) []))
    (int_cmp_total.antisymm (objective m (get_or xs k [])) (objective m (get_or xs (k + 1) []))) (w.ordered k [] zero-le long)
    (λ tied. less_from lex_total lex_exact (get_or xs k []) (get_or xs (k + 1) []) (ties_rise m walk cut xs w k long tied) (apart k (k + 1) [] (omega arith) long)))

-- the walk in order is the list
pub walk_is_list : (m : ModelParts) → IsWalk m → (cut : ℤ) (xs : List (List ℤ)) → IsSortedWalk m cut xs → IsList m cut xs
walk_is_list m walk cut xs w = record {
  ascending = walk_ascends m walk cut xs w;
  exact = λ x. (
    λ h. (contains_kept m walk cut x).0 (Contains-permutation xs (kept m cut) x (IsPermutation-sym (kept m cut) xs w.same) h),
    λ k. Contains-permutation (kept m cut) xs x w.same ((contains_kept m walk cut x).1 k),
  );
}
