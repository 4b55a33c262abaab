-- Lists that ascend strictly in an order.
use Rattle.std.proofs.Common.{◌≡◌, List, [], ◌∷◌, refl, sym, ap, ◌∙◌, inl, inr, ◌↔◌, Contains, Ordering, Less}
use Rattle.std.specs.Cmp.{IsTotalOrder}
use Rattle.std.specs.List.Sorted.{IsStrictlySortedBy}
use Rattle.std.specs.Ordering.{ordering_reverse}
use Rattle.std.proofs.lemmas.List.Elements.{All-contains, All-from_recursion}
use Rattle.std.proofs.lemmas.Map.Keys.{sorted_head, sorted_tail}
use Rattle.sp_populate.proofs.MemberLemmas.{first-or-later, here, later, none-there}

-- the first is below each of the others
pub below_all : {X : Type 0} (R : X → X → Ordering) (x : X) (xs : List X) (z : X) → IsStrictlySortedBy R (x ∷ xs) → Contains xs z → R x z ≡ Less
below_all R x xs z s h = All-contains (λ y. R x y ≡ Less) xs z (All-from_recursion (λ y. R x y ≡ Less) xs (sorted_head R x xs s)) h

-- no two are below each other
pub not_both : {X : Type 0} {R : X → X → Ordering} → IsTotalOrder R → (x y : X) → R x y ≡ Less → R y x ≡ Less → ⊥
not_both o x y h k = let e : Less ≡ ordering_reverse Less = sym h ∙ o.antisymm x y ∙ ap ordering_reverse k in cc

pub not_itself : {X : Type 0} {R : X → X → Ordering} → IsTotalOrder R → (x : X) → R x x ≡ Less → ⊥
not_itself o x h = not_both o x x h h

-- the first of two lists with the same members is the same
first_same : {X : Type 0} {R : X → X → Ordering} → IsTotalOrder R → (x y : X) (xs ys : List X) → IsStrictlySortedBy R (x ∷ xs) → IsStrictlySortedBy R (y ∷ ys) → ((z : X) → Contains (x ∷ xs) z ↔ Contains (y ∷ ys) z) → x ≡ y
first_same {X} {R} o x y xs ys s t e =
    elim (first-or-later y ys x ((e x).0 (here x xs))) [
      | inl same ↦ sym same
      | inr behind ↦ elim (first-or-later x xs y ((e y).1 (here y ys))) [
        | inl same ↦ same
        | inr back ↦ absurd (not_both o x y (below_all R x xs y s back) (below_all R y ys x t behind))
      ]
    ]

-- a member of the one's rest is a member of the other's rest
rest_member : {X : Type 0} {R : X → X → Ordering} → IsTotalOrder R → (x y : X) (xs ys : List X) → x ≡ y → IsStrictlySortedBy R (x ∷ xs) → (z : X) → (Contains (x ∷ xs) z → Contains (y ∷ ys) z) → Contains xs z → Contains ys z
rest_member {X} {R} o x y xs ys same s z e h =
    elim (first-or-later y ys z (e (later x xs z h))) [
      | inl first ↦ absurd (not_itself o x (rw (sym (same ∙ first)) at (below_all R x xs z s h)))
      | inr behind ↦ behind
    ]

-- two strictly ascending lists with the same members are the same
pub same_sorted : {X : Type 0} {R : X → X → Ordering} → IsTotalOrder R → (xs ys : List X) → IsStrictlySortedBy R xs → IsStrictlySortedBy R ys → ((z : X) → Contains xs z ↔ Contains ys z) → xs ≡ ys
same_sorted o [] [] s t e = refl
same_sorted o [] (y ∷ ys) s t e = absurd (none-there y ((e y).1 (here y ys)))
same_sorted o (x ∷ xs) [] s t e = absurd (none-there x ((e x).0 (here x xs)))
same_sorted {X} {R} o (x ∷ xs) (y ∷ ys) s t e =
    let same : x ≡ y = first_same o x y xs ys s t e in
    let rest : xs ≡ ys = same_sorted o xs ys (sorted_tail R x xs s) (sorted_tail R y ys t)
    (λ z. (rest_member o x y xs ys same s z ((e z).0), rest_member o y x ys xs (sym same) t z ((e z).1))) in
    ap (λ v. v ∷ xs) same ∙ ap (λ vs. y ∷ vs) rest
