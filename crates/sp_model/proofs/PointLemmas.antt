-- A point is in the list of a box's points exactly where it lies within the box.
use Rattle.std.proofs.Common.{◌≡◌, ℕ, zero, suc, ◌<◌, true, ◌&&◌, ◌⊎◌, ◌↔◌, inl, inr, List, [], ◌∷◌, map, flat_map, length, get_or, Contains, ℤ, pos, negsuc, ◌+ℤ◌, ◌-ℤ◌, ◌≤ℤ◌, ◌<ℤ◌, int_le, IsTrue, refl, sym, ap, subst, arith, zero-lt-suc, suc-le-suc, le_of_suc-le-suc, not-suc-le-zero}
use Rattle.std.proofs.lemmas.Int.{ints, by_lt_z}
use Rattle.std.proofs.lemmas.List.Elements.{Contains-append_left, Contains-append_right, Contains-append_cases}
use Rattle.std.proofs.lemmas.Bool.{and_parts, and_from}
use Rattle.sp_model.specs.Boxes.{Bounds, range_at, coordinate, IsBetween, IsWithin, lies_in, natural, width_of, numbers_from, points}

-- ---- lists

pub Contains-here : {X : Type 0} (x : X) (xs : List X) → Contains (x ∷ xs) x
Contains-here x xs = (0, zero-lt-suc (length xs), refl)

pub Contains-later : {X : Type 0} (y : X) (ys : List X) (x : X) → Contains ys x → Contains (y ∷ ys) x
Contains-later y ys x h = (suc h.0, suc-le-suc h.1, h.2)

at_cases : {X : Type 0} (y : X) (ys : List X) (x : X) (k : ℕ) → k < length (y ∷ ys) → get_or (y ∷ ys) k x ≡ x → (y ≡ x) ⊎ Contains ys x
at_cases y ys x zero h e = inl e
at_cases y ys x (suc k) h e = inr (k, le_of_suc-le-suc h, e)

pub Contains-cons_cases : {X : Type 0} (y : X) (ys : List X) (x : X) → Contains (y ∷ ys) x → (y ≡ x) ⊎ Contains ys x
Contains-cons_cases y ys x h = at_cases y ys x h.0 h.1 h.2

pub Contains-none : {X : Type 0} (x : X) → Contains [] x → ⊥
Contains-none x h = not-suc-le-zero h.1

pub Contains-map : {X Y : Type 0} (f : X → Y) (xs : List X) (x : X) → Contains xs x → Contains (map f xs) (f x)
Contains-map f [] x h = absurd (Contains-none x h)
Contains-map f (y ∷ ys) x h =
    elim (Contains-cons_cases y ys x h) [
      | inl e ↦ subst (λ z. Contains (map f (y ∷ ys)) (f z)) e (Contains-here (f y) (map f ys))
      | inr t ↦ Contains-later (f y) (map f ys) (f x) (Contains-map f ys x t)
    ]

-- an element of a mapped list is the image of one of the list
pub Contains-map_parts : {X Y : Type 0} (f : X → Y) (xs : List X) (y : Y) → Contains (map f xs) y → (x : X) × Contains xs x × (f x ≡ y)
Contains-map_parts f [] y h = absurd (Contains-none y h)
Contains-map_parts {X} {Y} f (x ∷ xs) y h =
    elim (Contains-cons_cases (f x) (map f xs) y h) [
      | inl e ↦ (x, Contains-here x xs, e)
      | inr t ↦ let r = Contains-map_parts f xs y t in (r.0, Contains-later x xs r.0 r.1, r.2)
    ]

pub Contains-flat_map : {X Y : Type 0} (f : X → List Y) (xs : List X) (x : X) (y : Y) → Contains xs x → Contains (f x) y → Contains (flat_map f xs) y
Contains-flat_map f [] x y h g = absurd (Contains-none x h)
Contains-flat_map f (z ∷ zs) x y h g =
    elim (Contains-cons_cases z zs x h) [
      | inl e ↦ Contains-append_left (f z) (flat_map f zs) y (subst (λ w. Contains (f w) y) (sym e) g)
      | inr t ↦ Contains-append_right (f z) (flat_map f zs) y (Contains-flat_map f zs x y t g)
    ]

-- an element of the joined lists is one of one of them
pub Contains-flat_map_parts : {X Y : Type 0} (f : X → List Y) (xs : List X) (y : Y) → Contains (flat_map f xs) y → (x : X) × Contains xs x × Contains (f x) y
Contains-flat_map_parts f [] y h = absurd (Contains-none y h)
Contains-flat_map_parts f (z ∷ zs) y h =
    elim (Contains-append_cases (f z) (flat_map f zs) y h) [
      | inl g ↦ (z, Contains-here z zs, g)
      | inr t ↦ let r = Contains-flat_map_parts f zs y t in (r.0, Contains-later z zs r.0 r.1, r.2)
    ]

-- ---- the numbers of a range

pub natural_cases : (z : ℤ) → ((z <ℤ pos 0) × (natural z ≡ 0)) ⊎ (pos (natural z) ≡ z)
natural_cases (pos n) = inr refl
natural_cases (negsuc n) = inl (omega (arith, ints), refl)

-- a value is in a range exactly where it is at least the least one, and less than the width above it
pub between_from_width : (r : ℤ × ℤ) (v : ℤ) → r.0 ≤ℤ v → v <ℤ (r.0 +ℤ pos (width_of r)) → IsBetween r v
between_from_width r v low high =
    elim (natural_cases ((r.1 +ℤ pos 1) -ℤ r.0)) [
      | inl e ↦ let none : natural ((r.1 +ℤ pos 1) -ℤ r.0) ≡ 0 = e.1 in absurd (omega (arith, ints))
      | inr e ↦ record { least = low; greatest = omega (arith, ints) }
    ]

pub width_from_between : (r : ℤ × ℤ) (v : ℤ) → IsBetween r v → v <ℤ (r.0 +ℤ pos (width_of r))
width_from_between r v b =
    let low : r.0 ≤ℤ v = b.least in
    let high : v ≤ℤ r.1 = b.greatest in
    elim (natural_cases ((r.1 +ℤ pos 1) -ℤ r.0)) [
      | inl e ↦ let below : ((r.1 +ℤ pos 1) -ℤ r.0) <ℤ pos 0 = e.0 in absurd (omega (arith, ints))
      | inr e ↦ omega (arith, ints)
    ]

pub Contains-numbers : (least : ℤ) (n : ℕ) (v : ℤ) → least ≤ℤ v → v <ℤ (least +ℤ pos n) → Contains (numbers_from least n) v
Contains-numbers least zero v low high = absurd (omega (arith, ints))
Contains-numbers least (suc n) v low high =
    by_lt_z least v
    (λ l. Contains-later least (numbers_from (least +ℤ pos 1) n) v (Contains-numbers (least +ℤ pos 1) n v (omega (arith, ints)) (omega (arith, ints))))
    (λ l. let e : least ≡ v = omega (arith, ints) in subst (λ z. Contains (least ∷ numbers_from (least +ℤ pos 1) n) z) e (Contains-here least _))

pub numbers_within : (least : ℤ) (n : ℕ) (v : ℤ) → Contains (numbers_from least n) v → (least ≤ℤ v) × (v <ℤ (least +ℤ pos n))
numbers_within least zero v h = absurd (Contains-none v h)
numbers_within least (suc n) v h =
    elim (Contains-cons_cases least (numbers_from (least +ℤ pos 1) n) v h) [
      | inl e ↦ (omega (arith, ints), omega (arith, ints))
      | inr t ↦ let r = numbers_within (least +ℤ pos 1) n v t in
          let low : (least +ℤ pos 1) ≤ℤ v = r.0 in
          let high : v <ℤ ((least +ℤ pos 1) +ℤ pos n) = r.1 in
          (omega (arith, ints), omega (arith, ints))
    ]

-- ---- within a box, one variable at a time

pub within_nil : IsWithin [] []
within_nil = record { long = refl; each = λ j h. absurd (not-suc-le-zero h) }

each_cons : (r : ℤ × ℤ) (rs : Bounds) (v : ℤ) (xs : List ℤ) → IsBetween r v → IsWithin rs xs → (j : ℕ) → j < length (r ∷ rs) → IsBetween (range_at (r ∷ rs) j) (coordinate (v ∷ xs) j)
each_cons r rs v xs here rest zero h = here
each_cons r rs v xs here rest (suc j) h = rest.each j (le_of_suc-le-suc h)

pub within_cons : (r : ℤ × ℤ) (rs : Bounds) (v : ℤ) (xs : List ℤ) → IsBetween r v → IsWithin rs xs → IsWithin (r ∷ rs) (v ∷ xs)
within_cons r rs v xs here rest = record { long = ap suc rest.long; each = each_cons r rs v xs here rest }

pub within_head : (r : ℤ × ℤ) (rs : Bounds) (v : ℤ) (xs : List ℤ) → IsWithin (r ∷ rs) (v ∷ xs) → IsBetween r v
within_head r rs v xs w = w.each 0 (zero-lt-suc (length rs))

pub within_tail : (r : ℤ × ℤ) (rs : Bounds) (v : ℤ) (xs : List ℤ) → IsWithin (r ∷ rs) (v ∷ xs) → IsWithin rs xs
within_tail r rs v xs w =
    let long : suc (length xs) ≡ suc (length rs) = w.long in
    record { long = cc; each = λ j h. w.each (suc j) (suc-le-suc h) }

-- ---- the points of a box

points_contain : (b : Bounds) (x : List ℤ) → IsWithin b x → Contains (points b) x
points_contain [] [] w = Contains-here [] []
points_contain [] (v ∷ xs) w = let long : suc (length xs) ≡ 0 = w.long in absurd (omega arith)
points_contain (r ∷ rs) [] w = let long : 0 ≡ suc (length rs) = w.long in absurd (omega arith)
points_contain (r ∷ rs) (v ∷ xs) w =
    let here : IsBetween r v = within_head r rs v xs w in
    Contains-flat_map (λ v. map (λ x. v ∷ x) (points rs)) (numbers_from r.0 (width_of r)) v (v ∷ xs)
    (Contains-numbers r.0 (width_of r) v here.least (width_from_between r v here))
    (Contains-map (λ x. v ∷ x) (points rs) xs (points_contain rs xs (within_tail r rs v xs w)))

contained_within : (b : Bounds) (x : List ℤ) → Contains (points b) x → IsWithin b x
contained_within [] x h =
    elim (Contains-cons_cases [] [] x h) [ inl e ↦ subst (IsWithin []) e within_nil | inr t ↦ absurd (Contains-none x t) ]
contained_within (r ∷ rs) x h =
    let outer = Contains-flat_map_parts (λ v. map (λ x. v ∷ x) (points rs)) (numbers_from r.0 (width_of r)) x h in
    let inner = Contains-map_parts (λ x. outer.0 ∷ x) (points rs) x outer.2 in
    let place = numbers_within r.0 (width_of r) outer.0 outer.1 in
    subst (IsWithin (r ∷ rs)) inner.2 (within_cons r rs outer.0 inner.0 (between_from_width r outer.0 place.0 place.1) (contained_within rs inner.0 inner.1))

-- a point is in the list of a box's points exactly where it lies within the box
pub contains_points : (b : Bounds) (x : List ℤ) → Contains (points b) x ↔ IsWithin b x
contains_points b x = (contained_within b x, points_contain b x)

-- ---- the test

pub le_test : (a b : ℤ) → a ≤ℤ b → int_le a b ≡ true
le_test a b h = grind (arith, ints)

pub test_le : (a b : ℤ) → int_le a b ≡ true → a ≤ℤ b
test_le a b h = grind (arith, ints)

within_test : (b : Bounds) (x : List ℤ) → IsWithin b x → lies_in b x ≡ true
within_test [] [] w = refl
within_test [] (v ∷ xs) w = let long : suc (length xs) ≡ 0 = w.long in absurd (omega arith)
within_test (r ∷ rs) [] w = let long : 0 ≡ suc (length rs) = w.long in absurd (omega arith)
within_test (r ∷ rs) (v ∷ xs) w =
    let here : IsBetween r v = within_head r rs v xs w in
    and_from _ _ (and_from _ _ (le_test r.0 v here.least) (le_test v r.1 here.greatest)) (within_test rs xs (within_tail r rs v xs w))

test_within : (b : Bounds) (x : List ℤ) → lies_in b x ≡ true → IsWithin b x
test_within [] [] t = within_nil
test_within [] (v ∷ xs) t = cc
test_within (r ∷ rs) [] t = cc
test_within (r ∷ rs) (v ∷ xs) t =
    let both = and_parts (int_le r.0 v && int_le v r.1) (lies_in rs xs) t in
    let range = and_parts (int_le r.0 v) (int_le v r.1) both.0 in
    within_cons r rs v xs (record { least = test_le r.0 v range.0; greatest = test_le v r.1 range.1 }) (test_within rs xs both.1)

-- lying within a box is what the test says
pub within_iff_lies_in : (b : Bounds) (x : List ℤ) → IsWithin b x ↔ IsTrue (lies_in b x)
within_iff_lies_in b x = (within_test b x, test_within b x)
