-- The list as a function: the kept points, each placed before those that aren't less, are the list.
use Rattle.std.proofs.Common.{◌≡◌, get_or, false, List, [], ◌∷◌, refl, sym, ap, ap₂, subst, inl, inr, ◌⊎◌, ◌↔◌, Contains, Ordering, Less, ℤ, ◌≤ℤ◌, ◌<ℤ◌, int_le, arith, int_cmp}
use Rattle.std.specs.Cmp.{int_cmp_is}
use Rattle.std.specs.List.{AllByRecursion}
use Rattle.std.specs.List.Sorted.{IsStrictlySortedBy}
use Rattle.std.specs.Ordering.{ordering_then}
use Rattle.std.proofs.lemmas.Bool.{cond_both}
use Rattle.std.proofs.lemmas.Cmp.{int_ranked, by_ranked}
use Rattle.std.proofs.lemmas.Int.{ints}
use Rattle.std.proofs.lemmas.List.Elements.{recursion_from_All, Contains-get_or}
use Rattle.std.proofs.lemmas.Map.Keys.{sorted_tail}
use Rattle.sp_model.specs.declared.parts.ModelParts.{ModelParts}
use Rattle.sp_model.specs.Models.{objective}
use Rattle.sp_model.specs.Boxes.{lex_cmp}
use Rattle.sp_list.specs.Lists.{point_cmp, IsList, kept, placed, by_objective, list_of}
use Rattle.sp_list.proofs.ContainsLemmas.{test_le, Contains-cons_cases, Contains-here, Contains-later, Contains-none}
use Rattle.sp_list.proofs.ListLemmas.{points_total, unique}
use Rattle.sp_list.proofs.OrderLemmas.{below_all}
use Rattle.sp_list.proofs.SortedLemmas.{sorted_nil, sorted_cons}
use Rattle.sp_list.proofs.WalkLemmas.{IsWalk, contains_kept, kept_rises}

not_above : (a b : ℤ) → a ≤ℤ b → b <ℤ a → ⊥
not_above a b h k = omega (arith, ints)

lt_from_int_le : (a b : ℤ) → int_le a b ≡ false → b <ℤ a
lt_from_int_le a b h = grind (arith, ints)

-- from each member on its own
each_after : {X : Type 0} (R : X → X → Ordering) (x : X) (xs : List X) → ((z : X) → Contains xs z → R x z ≡ Less) → AllByRecursion (λ y. R x y ≡ Less) xs
each_after R x xs h = recursion_from_All (λ y. R x y ≡ Less) xs (λ k d long. h (get_or xs k d) (Contains-get_or xs k d long))

-- the placed point or one of the others
pub placed_cases : (m : ModelParts) (x : List ℤ) (ys : List (List ℤ)) (z : List ℤ) → Contains (placed m x ys) z → (x ≡ z) ⊎ Contains ys z
placed_cases m x [] z = λ h. Contains-cons_cases x [] z h
placed_cases m x (y ∷ ys) z =
    cond_both (int_le (objective m x) (objective m y)) (x ∷ y ∷ ys) (y ∷ placed m x ys) (λ l. Contains l z → (x ≡ z) ⊎ Contains (y ∷ ys) z)
    (λ t h. Contains-cons_cases x (y ∷ ys) z h)
    (λ t h. elim (Contains-cons_cases y (placed m x ys) z h) [
      | inl here ↦ inr (subst (λ v. Contains (y ∷ ys) v) here (Contains-here y ys))
      | inr later ↦ elim (placed_cases m x ys z later) [
        | inl here ↦ inl here
        | inr rest ↦ inr (Contains-later y ys z rest)
      ]
    ])

pub placed_here : (m : ModelParts) (x : List ℤ) (ys : List (List ℤ)) → Contains (placed m x ys) x
placed_here m x [] = Contains-here x []
placed_here m x (y ∷ ys) =
    cond_both (int_le (objective m x) (objective m y)) (x ∷ y ∷ ys) (y ∷ placed m x ys) (λ l. Contains l x)
    (λ t. Contains-here x (y ∷ ys)) (λ t. Contains-later y (placed m x ys) x (placed_here m x ys))

pub placed_others : (m : ModelParts) (x : List ℤ) (ys : List (List ℤ)) (z : List ℤ) → Contains ys z → Contains (placed m x ys) z
placed_others m x [] z h = absurd (Contains-none z h)
placed_others m x (y ∷ ys) z h =
    cond_both (int_le (objective m x) (objective m y)) (x ∷ y ∷ ys) (y ∷ placed m x ys) (λ l. Contains l z)
    (λ t. Contains-later x (y ∷ ys) z h)
    (λ t. elim (Contains-cons_cases y ys z h) [
      | inl here ↦ subst (λ v. Contains (y ∷ placed m x ys) v) here (Contains-here y (placed m x ys))
      | inr later ↦ Contains-later y (placed m x ys) z (placed_others m x ys z later)
    ])

-- the same points
pub members_stay : (m : ModelParts) (xs : List (List ℤ)) (z : List ℤ) → Contains (by_objective m xs) z ↔ Contains xs z
members_stay m [] z = (λ h. h, λ h. h)
members_stay m (x ∷ xs) z = (
  λ h. elim (placed_cases m x (by_objective m xs) z h) [
    | inl here ↦ subst (λ v. Contains (x ∷ xs) v) here (Contains-here x xs)
    | inr later ↦ Contains-later x xs z ((members_stay m xs z).0 later)
  ],
  λ h. elim (Contains-cons_cases x xs z h) [
    | inl here ↦ subst (λ v. Contains (placed m x (by_objective m xs)) v) here (placed_here m x (by_objective m xs))
    | inr later ↦ placed_others m x (by_objective m xs) z ((members_stay m xs z).1 later)
  ],
)

-- a lesser objective comes before
pub point_before : (m : ModelParts) (x y : List ℤ) → objective m x <ℤ objective m y → point_cmp m x y ≡ Less
point_before m x y h = ap (λ o. ordering_then o (lex_cmp x y)) (sym (int_cmp_is (objective m x) (objective m y) Less h))

-- an objective that isn't greater comes before, where the point does
pub point_before_tied : (m : ModelParts) (x y : List ℤ) → objective m x ≤ℤ objective m y → lex_cmp x y ≡ Less → point_cmp m x y ≡ Less
point_before_tied m x y h l =
    by_ranked (objective m x <ℤ objective m y) (objective m x ≡ objective m y) (objective m y <ℤ objective m x)
    (int_cmp (objective m x) (objective m y)) (int_ranked (objective m x) (objective m y) (int_cmp (objective m x) (objective m y)) refl)
    (λ e less. point_before m x y less)
    (λ e same. ap₂ ordering_then e l)
    (λ e greater. absurd (not_above (objective m x) (objective m y) h greater))

-- a list in order stays so when a point is placed that comes lexicographically before all
pub placed_ascends : (m : ModelParts) (x : List ℤ) (ys : List (List ℤ)) → ((z : List ℤ) → Contains ys z → lex_cmp x z ≡ Less) → IsStrictlySortedBy (point_cmp m) ys → IsStrictlySortedBy (point_cmp m) (placed m x ys)
placed_ascends m x [] first s = sorted_cons (point_cmp m) x [] tt (sorted_nil (point_cmp m))
placed_ascends m x (y ∷ ys) first s =
    cond_both (int_le (objective m x) (objective m y)) (x ∷ y ∷ ys) (y ∷ placed m x ys) (λ l. IsStrictlySortedBy (point_cmp m) l)
    (λ t.
    let before : point_cmp m x y ≡ Less = point_before_tied m x y (test_le (objective m x) (objective m y) t) (first y (Contains-here y ys)) in
    sorted_cons (point_cmp m) x (y ∷ ys)
    (each_after (point_cmp m) x (y ∷ ys) (λ z h. elim (Contains-cons_cases y ys z h) [
      | inl here ↦ subst (λ v. point_cmp m x v ≡ Less) here before
      | inr later ↦ (points_total m).trans x y z before (below_all (point_cmp m) y ys z s later)
    ]))
    s)
    (λ t.
    sorted_cons (point_cmp m) y (placed m x ys)
    (each_after (point_cmp m) y (placed m x ys) (λ z h. elim (placed_cases m x ys z h) [
      | inl here ↦ subst (λ v. point_cmp m y v ≡ Less) here (point_before m y x (lt_from_int_le (objective m x) (objective m y) t))
      | inr later ↦ below_all (point_cmp m) y ys z s later
    ]))
    (placed_ascends m x ys (λ z h. first z (Contains-later y ys z h)) (sorted_tail (point_cmp m) y ys s)))

-- points in lexicographic order are put in the list's order
pub by_objective_ascends : (m : ModelParts) (xs : List (List ℤ)) → IsStrictlySortedBy lex_cmp xs → IsStrictlySortedBy (point_cmp m) (by_objective m xs)
by_objective_ascends m [] s = sorted_nil (point_cmp m)
by_objective_ascends m (x ∷ xs) s =
    placed_ascends m x (by_objective m xs) (λ z h. below_all lex_cmp x xs z s ((members_stay m xs z).0 h)) (by_objective_ascends m xs (sorted_tail lex_cmp x xs s))

-- the function gives a list
pub list_of_is_list : (m : ModelParts) → IsWalk m → (cut : ℤ) → IsList m cut (list_of m cut)
list_of_is_list m walk cut = record {
  ascending = by_objective_ascends m (kept m cut) (kept_rises m walk cut);
  exact = λ x. (λ h. (contains_kept m walk cut x).0 ((members_stay m (kept m cut) x).0 h), λ k. (members_stay m (kept m cut) x).1 ((contains_kept m walk cut x).1 k));
}

-- and the only one
pub list_iff : (m : ModelParts) → IsWalk m → (cut : ℤ) (xs : List (List ℤ)) → IsList m cut xs ↔ (xs ≡ list_of m cut)
list_iff m walk cut xs = (
  λ h. unique m cut xs (list_of m cut) h (list_of_is_list m walk cut),
  λ e. subst (λ l. IsList m cut l) (sym e) (list_of_is_list m walk cut),
)
