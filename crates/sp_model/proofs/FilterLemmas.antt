-- What a list contains after a filter.
use Rattle.std.proofs.Common.{◌≡◌, Bool, true, false, List, [], ◌∷◌, filter, refl, sym, ap, ◌∙◌, subst, inl, inr, Contains}
use Rattle.std.proofs.lemmas.Bool.{cond_both}
use Rattle.std.proofs.lemmas.List.Elements.{All-contains, filter_passes}
use Rattle.sp_model.proofs.PointLemmas.{Contains-cons_cases, Contains-here, Contains-later, Contains-none}

-- a member that passes is kept
pub contains_filter : {X : Type 0} (p : X → Bool) (xs : List X) (z : X) → p z ≡ true → Contains xs z → Contains (filter p xs) z
contains_filter p [] z t h = absurd (Contains-none z h)
contains_filter p (x ∷ xs) z t h =
    cond_both (p x) (x ∷ filter p xs) (filter p xs) (λ l. Contains l z)
    (λ passes. elim (Contains-cons_cases x xs z h) [
      | inl here ↦ subst (λ v. Contains (x ∷ filter p xs) v) here (Contains-here x (filter p xs))
      | inr later ↦ Contains-later x (filter p xs) z (contains_filter p xs z t later)
    ])
    (λ fails. elim (Contains-cons_cases x xs z h) [
      | inl here ↦ (let e : true ≡ false = sym t ∙ ap p (sym here) ∙ fails in cc)
      | inr later ↦ contains_filter p xs z t later
    ])

-- what is kept was a member
pub contains_before_filter : {X : Type 0} (p : X → Bool) (xs : List X) (z : X) → Contains (filter p xs) z → Contains xs z
contains_before_filter p [] z = λ h. h
contains_before_filter p (x ∷ xs) z =
    cond_both (p x) (x ∷ filter p xs) (filter p xs) (λ l. Contains l z → Contains (x ∷ xs) z)
    (λ passes h. elim (Contains-cons_cases x (filter p xs) z h) [
      | inl here ↦ subst (λ v. Contains (x ∷ xs) v) here (Contains-here x xs)
      | inr later ↦ Contains-later x xs z (contains_before_filter p xs z later)
    ])
    (λ fails h. Contains-later x xs z (contains_before_filter p xs z h))

-- what is kept passes
pub passes_filter : {X : Type 0} (p : X → Bool) (xs : List X) (z : X) → Contains (filter p xs) z → p z ≡ true
passes_filter p xs z h = All-contains (λ x. p x ≡ true) (filter p xs) z (filter_passes p xs) h
