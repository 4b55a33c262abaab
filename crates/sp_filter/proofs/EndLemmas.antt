-- The least and the greatest value of a term over a range are reached.
use Rattle.std.proofs.Common.{◌≡◌, ℕ, ◌≤◌, max, Bool, true, false, refl, ℤ, pos, negsuc, ◌-ℤ◌, ◌*ℤ◌, ◌≤ℤ◌, ◌<ℤ◌, ap, sym, ◌∙◌, inl, inr, ◌⊎◌, arith, cond}
use Rattle.std.proofs.lemmas.Bool.{cases_Bool, cases_lt}
use Rattle.std.proofs.lemmas.Int.{ints, clamps}
use Rattle.std.specs.Int.{int_min, int_max}
use Rattle.std.specs.Int.RustNames.{int_le, int_lt, unsigned_abs}
use Rattle.sp_model.specs.Boxes.{natural, IsBetween}
use Rattle.sp_filter.specs.Filters.{distance, least_multiple, most_multiple, nearest, farthest, distances}
use Rattle.sp_filter.specs.Laws.{IsLeastOver, IsMostOver, multiple_by, distance_by}
use Rattle.sp_filter.proofs.ClosingLemmas.{between_multiples, between_distances}

min_either : (y z : ℤ) → (int_min y z ≡ y) ⊎ (int_min y z ≡ z)
min_either y z = elim (cases_Bool (int_lt z y)) [
  | inl t ↦ inr (rw t refl)
  | inr f ↦ inl (rw f refl)
]

max_either : (y z : ℤ) → (int_max y z ≡ y) ⊎ (int_max y z ≡ z)
max_either y z = elim (cases_Bool (int_lt z y)) [
  | inl t ↦ inl (rw t refl)
  | inr f ↦ inr (rw f refl)
]

-- values where a function gives the two ends of a range
pub record Ends (f : ℤ → ℤ) (r : ℤ × ℤ) (p q : ℤ) : Type 0 where
  pub first : (w : ℤ) × IsBetween r w × (f w ≡ p)
  pub last : (w : ℤ) × IsBetween r w × (f w ≡ q)

moved : (f : ℤ → ℤ) (r : ℤ × ℤ) (p v : ℤ) → v ≡ p → ((w : ℤ) × IsBetween r w × (f w ≡ p)) → (w : ℤ) × IsBetween r w × (f w ≡ v)
moved f r p v e s = (s.0, s.1, s.2 ∙ sym e)

reached_least : (f : ℤ → ℤ) (r : ℤ × ℤ) (p q : ℤ) → Ends f r p q → (w : ℤ) × IsBetween r w × (f w ≡ int_min p q)
reached_least f r p q s = elim (min_either p q) [
  | inl e ↦ moved f r p (int_min p q) e s.first
  | inr e ↦ moved f r q (int_min p q) e s.last
]

reached_most : (f : ℤ → ℤ) (r : ℤ × ℤ) (p q : ℤ) → Ends f r p q → (w : ℤ) × IsBetween r w × (f w ≡ int_max p q)
reached_most f r p q s = elim (max_either p q) [
  | inl e ↦ moved f r p (int_max p q) e s.first
  | inr e ↦ moved f r q (int_max p q) e s.last
]

at_first : (r : ℤ × ℤ) → r.0 ≤ℤ r.1 → IsBetween r r.0
at_first r h = record { least = omega (arith, ints); greatest = h }

at_last : (r : ℤ × ℤ) → r.0 ≤ℤ r.1 → IsBetween r r.1
at_last r h = record { least = h; greatest = omega (arith, ints) }

multiple_ends : (a : ℤ) (r : ℤ × ℤ) → r.0 ≤ℤ r.1 → Ends (multiple_by a) r (a *ℤ r.0) (a *ℤ r.1)
multiple_ends a r h = record { first = (r.0, at_first r h, refl); last = (r.1, at_last r h, refl) }

pub least_multiple_over : (a : ℤ) (r : ℤ × ℤ) → r.0 ≤ℤ r.1 → IsLeastOver (multiple_by a) r (least_multiple a r)
least_multiple_over a r h = record {
  reached = reached_least (multiple_by a) r (a *ℤ r.0) (a *ℤ r.1) (multiple_ends a r h);
  least = λ w b. (between_multiples a r w b).least;
}

pub most_multiple_over : (a : ℤ) (r : ℤ × ℤ) → r.0 ≤ℤ r.1 → IsMostOver (multiple_by a) r (most_multiple a r)
most_multiple_over a r h = record {
  reached = reached_most (multiple_by a) r (a *ℤ r.0) (a *ℤ r.1) (multiple_ends a r h);
  most = λ w b. (between_multiples a r w b).greatest;
}

-- a value of the range with its nearest, and with its farthest distance
abbrev HasDistance : ℤ × ℤ → ℤ → ℕ → Type 0
HasDistance r f n = (w : ℤ) × IsBetween r w × (distance w f ≡ n)

above : (z : ℤ) → pos 0 ≤ℤ z → natural z ≡ unsigned_abs z
above (pos n) h = omega (arith, ints)
above (negsuc n) h = absurd (omega (arith, ints))

below : (z : ℤ) → z ≤ℤ pos 0 → natural z ≡ 0
below (pos n) h = omega (arith, ints)
below (negsuc n) h = refl

tested : (y z : ℤ) → int_le y z ≡ true → y ≤ℤ z
tested y z h = grind (arith, ints)

untested : (y z : ℤ) → int_le y z ≡ false → z <ℤ y
untested y z h = grind (arith, ints)

cases_le : (y z : ℤ) → (y ≤ℤ z) ⊎ (z <ℤ y)
cases_le y z = elim (cases_Bool (int_le y z)) [
  | inl t ↦ inl (tested y z t)
  | inr f ↦ inr (untested y z f)
]

max_of : (m n : ℕ) → (max m n ≡ m) ⊎ (max m n ≡ n)
max_of m n = elim (cases_lt m n) [
  | inl l ↦ inr (omega arith)
  | inr g ↦ inl (omega arith)
]

near_low : (r : ℤ × ℤ) (f : ℤ) → r.0 ≤ℤ r.1 → f ≤ℤ r.0 → distance r.0 f ≡ nearest r f
near_low r f h k =
    let p : natural (r.0 -ℤ f) ≡ unsigned_abs (r.0 -ℤ f) = above (r.0 -ℤ f) (omega (arith, ints)) in
    let q : natural (f -ℤ r.1) ≡ 0 = below (f -ℤ r.1) (omega (arith, ints)) in
    omega (arith, p, q)

near_high : (r : ℤ × ℤ) (f : ℤ) → r.0 ≤ℤ r.1 → r.1 ≤ℤ f → distance r.1 f ≡ nearest r f
near_high r f h k =
    let p : natural (f -ℤ r.1) ≡ unsigned_abs (f -ℤ r.1) = above (f -ℤ r.1) (omega (arith, ints)) in
    let q : natural (r.0 -ℤ f) ≡ 0 = below (r.0 -ℤ f) (omega (arith, ints)) in
    let e : unsigned_abs (f -ℤ r.1) ≡ distance r.1 f = omega (arith, ints) in
    omega (arith, p, q, e)

near_inside : (r : ℤ × ℤ) (f : ℤ) → r.0 ≤ℤ f → f ≤ℤ r.1 → distance f f ≡ nearest r f
near_inside r f h k =
    let p : natural (r.0 -ℤ f) ≡ 0 = below (r.0 -ℤ f) (omega (arith, ints)) in
    let q : natural (f -ℤ r.1) ≡ 0 = below (f -ℤ r.1) (omega (arith, ints)) in
    let e : distance f f ≡ 0 = omega (arith, ints) in
    omega (arith, p, q, e)

nearest_reached : (r : ℤ × ℤ) (f : ℤ) → r.0 ≤ℤ r.1 → HasDistance r f (nearest r f)
nearest_reached r f h = elim (cases_le f r.0) [
  | inl low ↦ (r.0, at_first r h, near_low r f h low)
  | inr over ↦ (elim (cases_le r.1 f) [
    | inl high ↦ (r.1, at_last r h, near_high r f h high)
    | inr under ↦ (f, record { least = omega (arith, ints); greatest = omega (arith, ints) }, near_inside r f (omega (arith, ints)) (omega (arith, ints)))
  ])
]

farthest_reached : (r : ℤ × ℤ) (f : ℤ) → r.0 ≤ℤ r.1 → HasDistance r f (farthest r f)
farthest_reached r f h = elim (max_of (distance r.0 f) (distance r.1 f)) [
  | inl e ↦ (r.0, at_first r h, sym e)
  | inr e ↦ (r.1, at_last r h, sym e)
]

distance_ends : (w f : ℤ) (r : ℤ × ℤ) → r.0 ≤ℤ r.1 → Ends (distance_by w f) r (w *ℤ pos (nearest r f)) (w *ℤ pos (farthest r f))
distance_ends w f r h =
    let near = nearest_reached r f h in
    let far = farthest_reached r f h in
    record {
      first = (near.0, near.1, ap (λ n. w *ℤ pos n) near.2);
      last = (far.0, far.1, ap (λ n. w *ℤ pos n) far.2);
    }

pub least_distance_over : (w f : ℤ) (r : ℤ × ℤ) → r.0 ≤ℤ r.1 → IsLeastOver (distance_by w f) r (least_multiple w (distances r f))
least_distance_over w f r h = record {
  reached = reached_least (distance_by w f) r (w *ℤ pos (nearest r f)) (w *ℤ pos (farthest r f)) (distance_ends w f r h);
  least = λ v b. (between_multiples w (distances r f) (pos (distance v f)) (between_distances r f v b)).least;
}

pub most_distance_over : (w f : ℤ) (r : ℤ × ℤ) → r.0 ≤ℤ r.1 → IsMostOver (distance_by w f) r (most_multiple w (distances r f))
most_distance_over w f r h = record {
  reached = reached_most (distance_by w f) r (w *ℤ pos (nearest r f)) (w *ℤ pos (farthest r f)) (distance_ends w f r h);
  most = λ v b. (between_multiples w (distances r f) (pos (distance v f)) (between_distances r f v b)).greatest;
}
