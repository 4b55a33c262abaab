-- A split divides the points of a box, and their number.
use Rattle.std.proofs.Common.{◌≡◌, ℕ, zero, suc, ◌+◌, ◌*◌, ◌<◌, ◌⊎◌, ◌↔◌, inl, inr, List, [], ◌∷◌, map, flat_map, length, ℤ, pos, ◌+ℤ◌, ◌-ℤ◌, ◌≤ℤ◌, ◌<ℤ◌, refl, sym, ap, ◌∙◌, arith, zero-lt-suc, le_of_suc-le-suc, not-suc-le-zero, length-append, suc-mul, zero-mul, add-mul, mul-pos, mul-zero}
use Rattle.std.proofs.Math.ListN.{length-map}
use Rattle.std.proofs.lemmas.Int.{ints, by_lt_z}
use Rattle.sp_model.specs.Boxes.{Bounds, coordinate, IsBetween, IsWithin, width_of, numbers_from, points, point_count, below, above, CanSplit}
use Rattle.sp_model.proofs.PointLemmas.{within_cons, within_head, within_tail, natural_cases}

-- ---- the length of the list of points

block_lengths : (ps : List (List ℤ)) (n : ℕ) (least : ℤ) → length (flat_map (λ v. map (λ x. v ∷ x) ps) (numbers_from least n)) ≡ n * length ps
block_lengths ps zero least = sym (zero-mul (length ps))
block_lengths ps (suc n) least =
    let rest = block_lengths ps n (least +ℤ pos 1) in
    let split = length-append (map (λ x. least ∷ x) ps) (flat_map (λ v. map (λ x. v ∷ x) ps) (numbers_from (least +ℤ pos 1) n)) in
    let block : length (map (λ x. least ∷ x) ps) ≡ length ps = simp length-map in
    let more = suc-mul n (length ps) in
    omega (arith, rest, split, block, more)

-- the list of a box's points has as many elements as the box has points
pub length_points : (b : Bounds) → length (points b) ≡ point_count b
length_points [] = refl
length_points (r ∷ rs) = block_lengths (points rs) (width_of r) r.0 ∙ ap (λ n. width_of r * n) (length_points rs)

-- ---- a split, one variable at a time

pub split_tail : (r : ℤ × ℤ) (rs : Bounds) (v : ℕ) (at : ℤ) → CanSplit (r ∷ rs) (suc v) at → CanSplit rs v at
split_tail r rs v at s = record { known = le_of_suc-le-suc s.known; least = s.least; greatest = s.greatest }

no_split : (v : ℕ) (at : ℤ) → CanSplit [] v at → ⊥
no_split v at s = not-suc-le-zero s.known

none_within : (r : ℤ × ℤ) (rs : Bounds) → IsWithin (r ∷ rs) [] → ⊥
none_within r rs w = let long : 0 ≡ suc (length rs) = w.long in omega arith

-- ---- the points of the two parts

below_within : (b : Bounds) (v : ℕ) (at : ℤ) (x : List ℤ) → CanSplit b v at → IsWithin (below b v at) x → IsWithin b x × (coordinate x v ≤ℤ at)
below_within [] v at x s w = absurd (no_split v at s)
below_within (r ∷ rs) zero at [] s w = absurd (none_within (r.0, at) rs w)
below_within (r ∷ rs) zero at (y ∷ ys) s w =
    let here : IsBetween (r.0, at) y = within_head (r.0, at) rs y ys w in
    let low : r.0 ≤ℤ y = here.least in
    let high : y ≤ℤ at = here.greatest in
    let room : at <ℤ r.1 = s.greatest in
    (within_cons r rs y ys (record { least = low; greatest = omega (arith, ints) }) (within_tail (r.0, at) rs y ys w), high)
below_within (r ∷ rs) (suc v) at [] s w = absurd (none_within r (below rs v at) w)
below_within (r ∷ rs) (suc v) at (y ∷ ys) s w =
    let rest = below_within rs v at ys (split_tail r rs v at s) (within_tail r (below rs v at) y ys w) in
    (within_cons r rs y ys (within_head r (below rs v at) y ys w) rest.0, rest.1)

within_below : (b : Bounds) (v : ℕ) (at : ℤ) (x : List ℤ) → CanSplit b v at → IsWithin b x → coordinate x v ≤ℤ at → IsWithin (below b v at) x
within_below [] v at x s w h = absurd (no_split v at s)
within_below (r ∷ rs) v at [] s w h = absurd (none_within r rs w)
within_below (r ∷ rs) zero at (y ∷ ys) s w h =
    let here : IsBetween r y = within_head r rs y ys w in
    within_cons (r.0, at) rs y ys (record { least = here.least; greatest = h }) (within_tail r rs y ys w)
within_below (r ∷ rs) (suc v) at (y ∷ ys) s w h =
    within_cons r (below rs v at) y ys (within_head r rs y ys w) (within_below rs v at ys (split_tail r rs v at s) (within_tail r rs y ys w) h)

above_within : (b : Bounds) (v : ℕ) (at : ℤ) (x : List ℤ) → CanSplit b v at → IsWithin (above b v at) x → IsWithin b x × (at <ℤ coordinate x v)
above_within [] v at x s w = absurd (no_split v at s)
above_within (r ∷ rs) zero at [] s w = absurd (none_within (at +ℤ pos 1, r.1) rs w)
above_within (r ∷ rs) zero at (y ∷ ys) s w =
    let here : IsBetween (at +ℤ pos 1, r.1) y = within_head (at +ℤ pos 1, r.1) rs y ys w in
    let low : (at +ℤ pos 1) ≤ℤ y = here.least in
    let high : y ≤ℤ r.1 = here.greatest in
    let room : r.0 ≤ℤ at = s.least in
    (within_cons r rs y ys (record { least = omega (arith, ints); greatest = high }) (within_tail (at +ℤ pos 1, r.1) rs y ys w), omega (arith, ints))
above_within (r ∷ rs) (suc v) at [] s w = absurd (none_within r (above rs v at) w)
above_within (r ∷ rs) (suc v) at (y ∷ ys) s w =
    let rest = above_within rs v at ys (split_tail r rs v at s) (within_tail r (above rs v at) y ys w) in
    (within_cons r rs y ys (within_head r (above rs v at) y ys w) rest.0, rest.1)

within_above : (b : Bounds) (v : ℕ) (at : ℤ) (x : List ℤ) → CanSplit b v at → IsWithin b x → at <ℤ coordinate x v → IsWithin (above b v at) x
within_above [] v at x s w h = absurd (no_split v at s)
within_above (r ∷ rs) v at [] s w h = absurd (none_within r rs w)
within_above (r ∷ rs) zero at (y ∷ ys) s w h =
    let here : IsBetween r y = within_head r rs y ys w in
    within_cons (at +ℤ pos 1, r.1) rs y ys (record { least = omega (arith, ints); greatest = here.greatest }) (within_tail r rs y ys w)
within_above (r ∷ rs) (suc v) at (y ∷ ys) s w h =
    within_cons r (above rs v at) y ys (within_head r rs y ys w) (within_above rs v at ys (split_tail r rs v at s) (within_tail r rs y ys w) h)

-- the lower part has the points of the box with the variable's value at most at
pub below_is : (b : Bounds) (v : ℕ) (at : ℤ) (x : List ℤ) → CanSplit b v at → IsWithin (below b v at) x ↔ (IsWithin b x × (coordinate x v ≤ℤ at))
below_is b v at x s = (below_within b v at x s, λ w. within_below b v at x s w.0 w.1)

-- the upper part has the points of the box with the variable's value above at
pub above_is : (b : Bounds) (v : ℕ) (at : ℤ) (x : List ℤ) → CanSplit b v at → IsWithin (above b v at) x ↔ (IsWithin b x × (at <ℤ coordinate x v))
above_is b v at x s = (above_within b v at x s, λ w. within_above b v at x s w.0 w.1)

-- each point of the box lies in one of the two parts
pub split_covers : (b : Bounds) (v : ℕ) (at : ℤ) (x : List ℤ) → CanSplit b v at → IsWithin b x ↔ (IsWithin (below b v at) x ⊎ IsWithin (above b v at) x)
split_covers b v at x s = (
  λ w. by_lt_z at (coordinate x v) (λ h. inr (within_above b v at x s w h)) (λ h. inl (within_below b v at x s w h)),
  λ w. elim w [ inl l ↦ (below_within b v at x s l).0 | inr u ↦ (above_within b v at x s u).0 ],
)

-- no point lies in both parts
pub split_parts_apart : (b : Bounds) (v : ℕ) (at : ℤ) (x : List ℤ) → CanSplit b v at → IsWithin (below b v at) x → IsWithin (above b v at) x → ⊥
split_parts_apart b v at x s l u =
    let low : coordinate x v ≤ℤ at = (below_within b v at x s l).1 in
    let high : at <ℤ coordinate x v = (above_within b v at x s u).1 in
    omega (arith, ints)

-- ---- the numbers of points

pub width_split : (r : ℤ × ℤ) (at : ℤ) → r.0 ≤ℤ at → at <ℤ r.1 → width_of r ≡ width_of (r.0, at) + width_of (at +ℤ pos 1, r.1)
width_split r at low high =
    elim (natural_cases ((r.1 +ℤ pos 1) -ℤ r.0)) [
      | inl e ↦ let none : ((r.1 +ℤ pos 1) -ℤ r.0) <ℤ pos 0 = e.0 in absurd (omega (arith, ints))
      | inr e ↦ elim (natural_cases ((at +ℤ pos 1) -ℤ r.0)) [
        | inl f ↦ let none : ((at +ℤ pos 1) -ℤ r.0) <ℤ pos 0 = f.0 in absurd (omega (arith, ints))
        | inr f ↦ elim (natural_cases ((r.1 +ℤ pos 1) -ℤ (at +ℤ pos 1))) [
          | inl g ↦ let none : ((r.1 +ℤ pos 1) -ℤ (at +ℤ pos 1)) <ℤ pos 0 = g.0 in absurd (omega (arith, ints))
          | inr g ↦ omega (arith, ints)
        ]
      ]
    ]

-- the box has as many points as its two parts together
pub split_counts : (b : Bounds) (v : ℕ) (at : ℤ) → CanSplit b v at → point_count b ≡ point_count (below b v at) + point_count (above b v at)
split_counts [] v at s = absurd (no_split v at s)
split_counts (r ∷ rs) zero at s =
    ap (λ w. w * point_count rs) (width_split r at s.least s.greatest) ∙ add-mul (width_of (r.0, at)) (width_of (at +ℤ pos 1, r.1)) (point_count rs)
split_counts (r ∷ rs) (suc v) at s =
    let rest = split_counts rs v at (split_tail r rs v at s) in
    ap (λ n. width_of r * n) rest ∙ omega arith

pub width_positive : (r : ℤ × ℤ) → r.0 ≤ℤ r.1 → 0 < width_of r
width_positive r h =
    elim (natural_cases ((r.1 +ℤ pos 1) -ℤ r.0)) [
      | inl e ↦ let none : ((r.1 +ℤ pos 1) -ℤ r.0) <ℤ pos 0 = e.0 in absurd (omega (arith, ints))
      | inr e ↦ omega (arith, ints)
    ]

-- both factors of a positive product are positive
pub factors_positive : (a b : ℕ) → 0 < a * b → (0 < a) × (0 < b)
factors_positive a zero h = let none = mul-zero a in absurd (omega arith)
factors_positive zero (suc b) h = let none = zero-mul (suc b) in absurd (omega arith)
factors_positive (suc a) (suc b) h = (zero-lt-suc a, zero-lt-suc b)

-- both parts of a box with points have points
pub split_parts_have_points : (b : Bounds) (v : ℕ) (at : ℤ) → CanSplit b v at → 0 < point_count b → (0 < point_count (below b v at)) × (0 < point_count (above b v at))
split_parts_have_points [] v at s h = absurd (no_split v at s)
split_parts_have_points (r ∷ rs) zero at s h =
    let low : r.0 ≤ℤ at = s.least in
    let high : at <ℤ r.1 = s.greatest in
    let parts = factors_positive (width_of r) (point_count rs) h in
    (mul-pos (width_positive (r.0, at) low) parts.1, mul-pos (width_positive (at +ℤ pos 1, r.1) (omega (arith, ints))) parts.1)
split_parts_have_points (r ∷ rs) (suc v) at s h =
    let parts = factors_positive (width_of r) (point_count rs) h in
    let rest = split_parts_have_points rs v at (split_tail r rs v at s) parts.1 in
    (mul-pos parts.0 rest.0, mul-pos parts.0 rest.1)
