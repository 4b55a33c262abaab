-- What a list contains, and the order of numbers as a test.
use Rattle.std.proofs.Common.{◌≡◌, ℕ, zero, suc, ◌<◌, true, ◌⊎◌, inl, inr, List, [], ◌∷◌, map, length, get_or, Contains, ℤ, ◌≤ℤ◌, int_le, refl, subst, arith, zero-lt-suc, suc-le-suc, le_of_suc-le-suc, not-suc-le-zero}
use Rattle.std.proofs.lemmas.Int.{ints}

pub Contains-here : {X : Type 0} (x : X) (xs : List X) → Contains (x ∷ xs) x
Contains-here x xs = (0, zero-lt-suc (length xs), refl)

pub Contains-later : {X : Type 0} (y : X) (ys : List X) (x : X) → Contains ys x → Contains (y ∷ ys) x
Contains-later y ys x h = (suc h.0, suc-le-suc h.1, h.2)

at_cases : {X : Type 0} (y : X) (ys : List X) (x : X) (k : ℕ) → k < length (y ∷ ys) → get_or (y ∷ ys) k x ≡ x → (y ≡ x) ⊎ Contains ys x
at_cases y ys x zero h e = inl e
at_cases y ys x (suc k) h e = inr (k, le_of_suc-le-suc h, e)

pub Contains-cons_cases : {X : Type 0} (y : X) (ys : List X) (x : X) → Contains (y ∷ ys) x → (y ≡ x) ⊎ Contains ys x
Contains-cons_cases y ys x h = at_cases y ys x h.0 h.1 h.2

pub Contains-none : {X : Type 0} (x : X) → Contains [] x → ⊥
Contains-none x h = not-suc-le-zero h.1

pub Contains-map : {X Y : Type 0} (f : X → Y) (xs : List X) (x : X) → Contains xs x → Contains (map f xs) (f x)
Contains-map f [] x h = absurd (Contains-none x h)
Contains-map f (y ∷ ys) x h =
    elim (Contains-cons_cases y ys x h) [
      | inl e ↦ subst (λ z. Contains (map f (y ∷ ys)) (f z)) e (Contains-here (f y) (map f ys))
      | inr t ↦ Contains-later (f y) (map f ys) (f x) (Contains-map f ys x t)
    ]

-- an element of a mapped list is the image of one of the list
pub Contains-map_parts : {X Y : Type 0} (f : X → Y) (xs : List X) (y : Y) → Contains (map f xs) y → (x : X) × Contains xs x × (f x ≡ y)
Contains-map_parts f [] y h = absurd (Contains-none y h)
Contains-map_parts {X} {Y} f (x ∷ xs) y h =
    elim (Contains-cons_cases (f x) (map f xs) y h) [
      | inl e ↦ (x, Contains-here x xs, e)
      | inr t ↦ let r = Contains-map_parts f xs y t in (r.0, Contains-later x xs r.0 r.1, r.2)
    ]

pub le_test : (a b : ℤ) → a ≤ℤ b → int_le a b ≡ true
le_test a b h = grind (arith, ints)

pub test_le : (a b : ℤ) → int_le a b ≡ true → a ≤ℤ b
test_le a b h = grind (arith, ints)
