-- What a list contains after a map or a filter.
use Rattle.std.proofs.Common.{◌≡◌, ℕ, zero, suc, ◌<◌, ◌⊎◌, Bool, true, false, List, [], ◌∷◌, map, filter, length, get_or, refl, sym, ap, ◌∙◌, subst, inl, inr, Contains, zero-lt-suc, suc-le-suc, le_of_suc-le-suc, not-suc-le-zero}
use Rattle.std.proofs.lemmas.Bool.{cond_both}
use Rattle.std.proofs.lemmas.List.Elements.{All-contains, filter_passes}

pub here : {X : Type 0} (x : X) (xs : List X) → Contains (x ∷ xs) x
here x xs = (0, zero-lt-suc (length xs), refl)

pub later : {X : Type 0} (y : X) (ys : List X) (x : X) → Contains ys x → Contains (y ∷ ys) x
later y ys x h = (suc h.0, suc-le-suc h.1, h.2)

at-place : {X : Type 0} (y : X) (ys : List X) (x : X) (k : ℕ) → k < length (y ∷ ys) → get_or (y ∷ ys) k x ≡ x → (y ≡ x) ⊎ Contains ys x
at-place y ys x zero h e = inl e
at-place y ys x (suc k) h e = inr (k, le_of_suc-le-suc h, e)

pub first-or-later : {X : Type 0} (y : X) (ys : List X) (x : X) → Contains (y ∷ ys) x → (y ≡ x) ⊎ Contains ys x
first-or-later y ys x h = at-place y ys x h.0 h.1 h.2

pub none-there : {X : Type 0} (x : X) → Contains [] x → ⊥
none-there x h = not-suc-le-zero h.1

pub Contains-map : {X Y : Type 0} (f : X → Y) (xs : List X) (x : X) → Contains xs x → Contains (map f xs) (f x)
Contains-map f [] x h = absurd (not-suc-le-zero h.1)
Contains-map f (y ∷ ys) x h =
    elim (first-or-later y ys x h) [
      | inl e ↦ subst (λ z. Contains (map f (y ∷ ys)) (f z)) e (here (f y) (map f ys))
      | inr t ↦ later (f y) (map f ys) (f x) (Contains-map f ys x t)
    ]

-- a member that passes is kept
pub contains_filter : {X : Type 0} (p : X → Bool) (xs : List X) (z : X) → p z ≡ true → Contains xs z → Contains (filter p xs) z
contains_filter p [] z t h = absurd (not-suc-le-zero h.1)
contains_filter p (x ∷ xs) z t h =
    cond_both (p x) (x ∷ filter p xs) (filter p xs) (λ l. Contains l z)
    (λ passes. elim (first-or-later x xs z h) [
      | inl first ↦ subst (λ v. Contains (x ∷ filter p xs) v) first (here x (filter p xs))
      | inr rest ↦ later x (filter p xs) z (contains_filter p xs z t rest)
    ])
    (λ fails. elim (first-or-later x xs z h) [
      | inl first ↦ (let e : true ≡ false = sym t ∙ ap p (sym first) ∙ fails in cc)
      | inr rest ↦ contains_filter p xs z t rest
    ])

-- what is kept was a member
pub before_filter : {X : Type 0} (p : X → Bool) (xs : List X) (z : X) → Contains (filter p xs) z → Contains xs z
before_filter p [] z = λ h. h
before_filter p (x ∷ xs) z =
    cond_both (p x) (x ∷ filter p xs) (filter p xs) (λ l. Contains l z → Contains (x ∷ xs) z)
    (λ passes h. elim (first-or-later x (filter p xs) z h) [
      | inl first ↦ subst (λ v. Contains (x ∷ xs) v) first (here x xs)
      | inr rest ↦ later x xs z (before_filter p xs z rest)
    ])
    (λ fails h. later x xs z (before_filter p xs z h))

-- what is kept passes
pub passes_filter : {X : Type 0} (p : X → Bool) (xs : List X) (z : X) → Contains (filter p xs) z → p z ≡ true
passes_filter p xs z h = All-contains (λ x. p x ≡ true) (filter p xs) z (filter_passes p xs) h
