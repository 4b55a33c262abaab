-- What a filter's sum can be over a box.
use Rattle.std.proofs.Common.{◌≡◌, ℕ, zero, suc, ◌+◌, ◌*◌, ◌<◌, ◌≤◌, max, Bool, true, false, not, ◌&&◌, ◌||◌, refl, List, [], ◌∷◌, length, ℤ, pos, negsuc, ◌+ℤ◌, ◌-ℤ◌, ◌*ℤ◌, ◌≤ℤ◌, Option, Some, None, ap, ap₂, sym, ◌∙◌, inl, inr, ◌⊎◌, arith, int_le}
use Rattle.std.proofs.lemmas.Bool.{cases_lt}
use Rattle.std.proofs.lemmas.List.{get_or_past}
use Rattle.std.proofs.lemmas.Int.{ints, clamps}
use Rattle.std.specs.Int.{int_min, int_max}
use Rattle.std.specs.Int.RustNames.{unsigned_abs}
use lib.IntN.{suc_ℤ-*ℤ, pred_ℤ-*ℤ, zero-*ℤ}
use Rattle.sp_model.specs.Boxes.{Bounds, range_at, coordinate, natural, IsBetween, IsWithin}
use Rattle.sp_model.specs.Stated.{is_at_least, is_at_most}
use Rattle.sp_model.specs.Sums.{Term}
use Rattle.sp_filter.specs.declared.kinds.Filter.{Filter}
use Rattle.sp_filter.specs.declared.kinds.Filter.TheVariants.{Range, Diversity}
use Rattle.sp_filter.specs.Filters.{Weighted, total, distance, multiple_at, distance_at, filter_sum, least_allowed, most_allowed, is_passed, least_multiple, most_multiple, nearest, farthest, distances, least_sum, most_sum, is_closed, box_at}
use Rattle.sp_filter.proofs.TermLemmas.{at_box}

-- ---- one term

mul-le : (n : ℕ) (u v : ℤ) → u ≤ℤ v → (pos n *ℤ u) ≤ℤ (pos n *ℤ v)
mul-le zero u v h = rw (zero-*ℤ u, zero-*ℤ v) (omega (arith, ints))
mul-le (suc n) u v h = omega (arith, ints, mul-le n u v h, suc_ℤ-*ℤ (pos n) u, suc_ℤ-*ℤ (pos n) v)

mul-ge : (n : ℕ) (u v : ℤ) → u ≤ℤ v → (negsuc n *ℤ v) ≤ℤ (negsuc n *ℤ u)
mul-ge zero u v h = omega (arith, ints, zero-*ℤ u, zero-*ℤ v, pred_ℤ-*ℤ (pos 0) u, pred_ℤ-*ℤ (pos 0) v)
mul-ge (suc n) u v h = omega (arith, ints, mul-ge n u v h, pred_ℤ-*ℤ (negsuc n) u, pred_ℤ-*ℤ (negsuc n) v)

least_up : (p q z : ℤ) → p ≤ℤ z → z ≤ℤ q → IsBetween (int_min p q, int_max p q) z
least_up p q z h k = record { least = omega (arith, ints, clamps); greatest = omega (arith, ints, clamps) }

least_down : (p q z : ℤ) → q ≤ℤ z → z ≤ℤ p → IsBetween (int_min p q, int_max p q) z
least_down p q z h k = record { least = omega (arith, ints, clamps); greatest = omega (arith, ints, clamps) }

-- the multiples by the numbers of a range lie between those by its ends
pub between_multiples : (a : ℤ) (r : ℤ × ℤ) (v : ℤ) → IsBetween r v → IsBetween (least_multiple a r, most_multiple a r) (a *ℤ v)
between_multiples (pos n) r v h = least_up (pos n *ℤ r.0) (pos n *ℤ r.1) (pos n *ℤ v) (mul-le n r.0 v h.least) (mul-le n v r.1 h.greatest)
between_multiples (negsuc n) r v h = least_down (negsuc n *ℤ r.0) (negsuc n *ℤ r.1) (negsuc n *ℤ v) (mul-ge n v r.1 h.greatest) (mul-ge n r.0 v h.least)

natural_below : (z : ℤ) (n : ℕ) → z ≤ℤ pos n → natural z ≤ n
natural_below (pos m) n h = omega (arith, ints)
natural_below (negsuc m) n h = omega arith

beyond : (l v f : ℤ) → l ≤ℤ v → (l -ℤ f) ≤ℤ pos (distance v f)
beyond l v f h = omega (arith, ints)

before : (v u f : ℤ) → v ≤ℤ u → (f -ℤ u) ≤ℤ pos (distance v f)
before v u f h = omega (arith, ints)

apart : (l v u f : ℤ) → l ≤ℤ v → v ≤ℤ u → distance v f ≤ max (distance l f) (distance u f)
apart l v u f h k = omega (arith, ints)

-- the distances of the numbers of a range lie between the nearest and the farthest
pub between_distances : (r : ℤ × ℤ) (f v : ℤ) → IsBetween r v → IsBetween (distances r f) (pos (distance v f))
between_distances r f v h =
    let p = natural_below (r.0 -ℤ f) (distance v f) (beyond r.0 v f h.least) in
    let q = natural_below (f -ℤ r.1) (distance v f) (before v r.1 f h.greatest) in
    let s = apart r.0 v r.1 f h.least h.greatest in
    let m : nearest r f ≤ distance v f = omega (arith, p, q) in
    record { least = omega (arith, ints, m); greatest = omega (arith, ints, s) }

-- ---- sums

between_totals : {X : Type 0} (g h f : X → ℤ) → ((t : X) → IsBetween (g t, h t) (f t)) → (ts : List X) → IsBetween (total g ts, total h ts) (total f ts)
between_totals g h f p [] = record { least = omega (arith, ints); greatest = omega (arith, ints) }
between_totals g h f p (t ∷ ts) =
    let k = between_totals g h f p ts in
    let j = p t in
    record { least = omega (arith, ints, k.least, j.least); greatest = omega (arith, ints, k.greatest, j.greatest) }

-- also past the last variable, where the range is 0 to 0
between_at : (b : Bounds) (x : List ℤ) (j : ℕ) → IsWithin b x → IsBetween (range_at b j) (coordinate x j)
between_at b x j h = elim (cases_lt j (length b)) [
  | inl l ↦ h.each j l
  | inr g ↦ (
      let long : length x ≤ j = omega (arith, h.long) in
      rw (get_or_past b j (pos 0, pos 0) g, get_or_past x j (pos 0) long) record { least = omega (arith, ints); greatest = omega (arith, ints) }
      )
]

-- the sum at a point of a box lies between the least and the greatest
pub between_sums : (f : Filter) (b : Bounds) (x : List ℤ) → IsWithin b x → IsBetween (least_sum f b, most_sum f b) (filter_sum f x)
between_sums (Range terms lo hi scale) b x w =
    between_totals (λ (t : Term). least_multiple t.1 (range_at b t.0)) (λ (t : Term). most_multiple t.1 (range_at b t.0)) (multiple_at x)
    (λ (t : Term). between_multiples t.1 (range_at b t.0) (coordinate x t.0) (between_at b x t.0 w)) terms
between_sums (Diversity terms lo hi scale) b x w =
    between_totals (λ (t : Weighted). least_multiple t.1 (distances (range_at b t.0) t.2)) (λ (t : Weighted). most_multiple t.1 (distances (range_at b t.0) t.2)) (distance_at x)
    (λ (t : Weighted). between_multiples t.1 (distances (range_at b t.0) t.2) (pos (distance (coordinate x t.0) t.2)) (between_distances (range_at b t.0) t.2 (coordinate x t.0) (between_at b x t.0 w))) terms

-- ---- bounds

up_from : (lo : Option ℤ) (s m : ℤ) → s ≤ℤ m → is_at_least lo m ≡ false → is_at_least lo s ≡ false
up_from None s m h e = cc
up_from (Some l) s m h e = grind (arith, ints)

down_from : (hi : Option ℤ) (l s : ℤ) → l ≤ℤ s → is_at_most hi l ≡ false → is_at_most hi s ≡ false
down_from None l s h e = cc
down_from (Some u) l s h e = grind (arith, ints)

either : (p q : Bool) → (not p || not q) ≡ true → (p ≡ false) ⊎ (q ≡ false)
either false q h = inl refl
either true false h = inr refl
either true true h = cc

none_left : (p : Bool) → (p && false) ≡ false
none_left true = refl
none_left false = refl

-- no point of a closed box passes
pub closed_fails : (f : Filter) (b : Bounds) (x : List ℤ) → is_closed f b ≡ true → IsWithin b x → is_passed f x ≡ false
closed_fails f b x e w =
    let between = between_sums f b x w in
    elim (either (is_at_least (least_allowed f) (most_sum f b)) (is_at_most (most_allowed f) (least_sum f b)) e) [
      | inl low ↦ ap (λ p. p && is_at_most (most_allowed f) (filter_sum f x)) (up_from (least_allowed f) (filter_sum f x) (most_sum f b) between.greatest low)
      | inr high ↦ ap (λ p. is_at_least (least_allowed f) (filter_sum f x) && p) (down_from (most_allowed f) (least_sum f b) (filter_sum f x) between.least high) ∙ none_left (is_at_least (least_allowed f) (filter_sum f x))
    ]

-- ---- a box of one point

same_total : {X : Type 0} (g f : X → ℤ) → ((t : X) → g t ≡ f t) → (ts : List X) → total g ts ≡ total f ts
same_total g f p [] = refl
same_total g f p (t ∷ ts) = ap₂ (λ y z. y +ℤ z) (p t) (same_total g f p ts)

min_same : (z : ℤ) → int_min z z ≡ z
min_same z = omega (arith, ints, clamps)

max_same : (z : ℤ) → int_max z z ≡ z
max_same z = omega (arith, ints, clamps)

natural_either : (z : ℤ) → max (natural z) (natural (pos 0 -ℤ z)) ≡ unsigned_abs z
natural_either (pos zero) = refl
natural_either (pos (suc n)) =
    let e : pos 0 -ℤ pos (suc n) ≡ negsuc n = omega (arith, ints) in
    ap (λ z. max (suc n) (natural z)) e ∙ omega arith
natural_either (negsuc n) =
    let e : pos 0 -ℤ negsuc n ≡ pos (suc n) = omega (arith, ints) in
    ap (λ z. max 0 (natural z)) e ∙ omega (arith, ints)

turned : (v f : ℤ) → f -ℤ v ≡ pos 0 -ℤ (v -ℤ f)
turned v f = omega (arith, ints)

nearest_same : (v f : ℤ) → nearest (v, v) f ≡ distance v f
nearest_same v f = ap (λ z. max (natural (v -ℤ f)) (natural z)) (turned v f) ∙ natural_either (v -ℤ f)

farthest_same : (v f : ℤ) → farthest (v, v) f ≡ distance v f
farthest_same v f = omega arith

distances_same : (v f : ℤ) → distances (v, v) f ≡ (pos (distance v f), pos (distance v f))
distances_same v f = ap₂ (λ m n. (pos m, pos n)) (nearest_same v f) (farthest_same v f)

pub least_at : (f : Filter) (x : List ℤ) → least_sum f (box_at x) ≡ filter_sum f x
least_at (Range terms lo hi scale) x =
    same_total (λ (t : Term). least_multiple t.1 (range_at (box_at x) t.0)) (multiple_at x)
    (λ (t : Term). ap (least_multiple t.1) (at_box x t.0) ∙ min_same (t.1 *ℤ coordinate x t.0)) terms
least_at (Diversity terms lo hi scale) x =
    same_total (λ (t : Weighted). least_multiple t.1 (distances (range_at (box_at x) t.0) t.2)) (distance_at x)
    (λ (t : Weighted). ap (λ r. least_multiple t.1 (distances r t.2)) (at_box x t.0) ∙ (ap (least_multiple t.1) (distances_same (coordinate x t.0) t.2) ∙ min_same (t.1 *ℤ pos (distance (coordinate x t.0) t.2)))) terms

pub most_at : (f : Filter) (x : List ℤ) → most_sum f (box_at x) ≡ filter_sum f x
most_at (Range terms lo hi scale) x =
    same_total (λ (t : Term). most_multiple t.1 (range_at (box_at x) t.0)) (multiple_at x)
    (λ (t : Term). ap (most_multiple t.1) (at_box x t.0) ∙ max_same (t.1 *ℤ coordinate x t.0)) terms
most_at (Diversity terms lo hi scale) x =
    same_total (λ (t : Weighted). most_multiple t.1 (distances (range_at (box_at x) t.0) t.2)) (distance_at x)
    (λ (t : Weighted). ap (λ r. most_multiple t.1 (distances r t.2)) (at_box x t.0) ∙ (ap (most_multiple t.1) (distances_same (coordinate x t.0) t.2) ∙ max_same (t.1 *ℤ pos (distance (coordinate x t.0) t.2)))) terms

neither : (p q : Bool) → (not p || not q) ≡ not (p && q)
neither true q = refl
neither false q = refl

-- a box of one point is closed exactly where the point fails
pub closed_at : (f : Filter) (b : Bounds) (x : List ℤ) → b ≡ box_at x → is_closed f b ≡ not (is_passed f x)
closed_at f b x e =
    let m : most_sum f b ≡ filter_sum f x = ap (most_sum f) e ∙ most_at f x in
    let l : least_sum f b ≡ filter_sum f x = ap (least_sum f) e ∙ least_at f x in
    rw (m, l) (neither (is_at_least (least_allowed f) (filter_sum f x)) (is_at_most (most_allowed f) (filter_sum f x)))
