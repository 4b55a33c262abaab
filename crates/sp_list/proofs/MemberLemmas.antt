-- What a list contains after a map or a filter, and that none of its members stands twice.
use Rattle.std.proofs.Common.{◌≡◌, ◌≢◌, ◌<◌, Bool, true, false, List, [], ◌∷◌, map, filter, length, get_or, refl, sym, ap, ◌∙◌, subst, inl, inr, AllPairs, Contains, Ordering, Less, Equal, Greater, is_eq, arith}
use Rattle.std.specs.List.{IsDistinct}
use Rattle.std.specs.Cmp.{IsTotalOrder}
use Rattle.std.specs.Ordering.{eq_by_cmp}
use Rattle.std.proofs.lemmas.Bool.{cond_both, false_from_ne_true}
use Rattle.std.proofs.lemmas.Cmp.{tied_itself}
use Rattle.std.proofs.lemmas.List.{get_or-map, length-map}
use Rattle.std.proofs.lemmas.List.Elements.{All-contains, filter_passes}
use Rattle.std.proofs.lemmas.Map.Keys.{IsDistinct-from_apart, apart_from_distinct}
use Rattle.sp_list.proofs.ContainsLemmas.{Contains-cons_cases, Contains-here, Contains-later, Contains-none}

-- a member that passes is kept
pub contains_filter : {X : Type 0} (p : X → Bool) (xs : List X) (z : X) → p z ≡ true → Contains xs z → Contains (filter p xs) z
contains_filter p [] z t h = absurd (Contains-none z h)
contains_filter p (x ∷ xs) z t h =
    cond_both (p x) (x ∷ filter p xs) (filter p xs) (λ l. Contains l z)
    (λ passes. elim (Contains-cons_cases x xs z h) [
      | inl here ↦ subst (λ v. Contains (x ∷ filter p xs) v) here (Contains-here x (filter p xs))
      | inr later ↦ Contains-later x (filter p xs) z (contains_filter p xs z t later)
    ])
    (λ fails. elim (Contains-cons_cases x xs z h) [
      | inl here ↦ (let e : true ≡ false = sym t ∙ ap p (sym here) ∙ fails in cc)
      | inr later ↦ contains_filter p xs z t later
    ])

-- what is kept was a member
pub contains_before_filter : {X : Type 0} (p : X → Bool) (xs : List X) (z : X) → Contains (filter p xs) z → Contains xs z
contains_before_filter p [] z = λ h. h
contains_before_filter p (x ∷ xs) z =
    cond_both (p x) (x ∷ filter p xs) (filter p xs) (λ l. Contains l z → Contains (x ∷ xs) z)
    (λ passes h. elim (Contains-cons_cases x (filter p xs) z h) [
      | inl here ↦ subst (λ v. Contains (x ∷ xs) v) here (Contains-here x xs)
      | inr later ↦ Contains-later x xs z (contains_before_filter p xs z later)
    ])
    (λ fails h. Contains-later x xs z (contains_before_filter p xs z h))

-- what is kept passes
pub passes_filter : {X : Type 0} (p : X → Bool) (xs : List X) (z : X) → Contains (filter p xs) z → p z ≡ true
passes_filter p xs z h = All-contains (λ x. p x ≡ true) (filter p xs) z (filter_passes p xs) h

-- keys that differ differ in any place
pub pairs_of_map : {X Y : Type 0} (f : X → Y) (xs : List X) → AllPairs (λ x y. f x ≢ f y) xs → (d : X) → AllPairs (λ x y. x ≢ y) (map f xs)
pairs_of_map f xs h d i j e lt long =
    let j_in : j < length xs = (rw length-map at long) in
    let i_in : i < length xs = omega arith in
    λ same. h i j d lt j_in (sym (get_or-map f xs i d e i_in) ∙ same ∙ get_or-map f xs j d e j_in)

is_equal : (o : Ordering) → is_eq o ≡ true → o ≡ Equal
is_equal Less e = cc
is_equal Equal e = refl
is_equal Greater e = cc

-- members that differ differ by an order that tells all apart
pub distinct_from_pairs : {X : Type 0} {R : X → X → Ordering} → ((x y : X) → R x y ≡ Equal → x ≡ y) → (xs : List X) → AllPairs (λ x y. x ≢ y) xs → IsDistinct (eq_by_cmp R) xs
distinct_from_pairs {X} {R} exact xs h =
    IsDistinct-from_apart (eq_by_cmp R) xs
    (λ i j d lt long. false_from_ne_true _ (λ t. h i j d lt long (exact _ _ (is_equal _ t))))

pub pairs_from_distinct : {X : Type 0} {R : X → X → Ordering} → IsTotalOrder R → (xs : List X) → IsDistinct (eq_by_cmp R) xs → AllPairs (λ x y. x ≢ y) xs
pairs_from_distinct {X} {R} o xs h i j d lt long same =
    let tied : is_eq (R (get_or xs i d) (get_or xs j d)) ≡ true = ap is_eq (subst (λ v. R (get_or xs i d) v ≡ Equal) same (tied_itself o (get_or xs i d))) in
    let apart : is_eq (R (get_or xs i d) (get_or xs j d)) ≡ false = apart_from_distinct (eq_by_cmp R) xs i j d h lt long in
    let e : true ≡ false = sym tied ∙ apart in cc
