-- Sums over a box inside another, and over a box of one point.
use Rattle.std.proofs.Common.{◌≡◌, ℕ, ◌≤◌, Bool, true, false, not, cond, inl, inr, Option, None, Some, List, [], ◌∷◌, length, ℤ, pos, ◌+ℤ◌, ◌*ℤ◌, ◌≤ℤ◌, int_le, refl, ap, ap₂, arith}
use Rattle.std.proofs.lemmas.Bool.{cases_lt}
use Rattle.std.proofs.lemmas.List.{get_or_past}
use Rattle.std.proofs.lemmas.Int.{ints}
use Rattle.sp_model.specs.declared.parts.Row.{Row}
use Rattle.sp_model.specs.Boxes.{Bounds, range_at, coordinate, IsBetween}
use Rattle.sp_model.specs.Stated.{is_at_least, is_at_most}
use Rattle.sp_model.specs.Sums.{Term, sum_at}
use Rattle.sp_sums.specs.Extremes.{term_least, term_most, least_over, most_over, span_of, is_low, is_high}
use Rattle.sp_sums.specs.Ranges.{IsInside, IsPart, IsPointBox}
use Rattle.sp_sums.proofs.LawLemmas.{least-le-term, term-le-most}

-- ---- inside

-- also past the last variable, where both ranges are 0 to 0
record IsNested (r q : ℤ × ℤ) : Type 0 where
  lower : IsBetween r q.0
  upper : IsBetween r q.1

nested_at : (b c : Bounds) (j : ℕ) → IsInside b c → IsNested (range_at b j) (range_at c j)
nested_at b c j h = elim (cases_lt j (length b)) [
  | inl l ↦ (let p : IsPart (range_at b j) (range_at c j) = h.each j l in record { lower = record { least = p.lower; greatest = omega (arith, ints, p.lower, p.filled, p.upper) }; upper = record { least = omega (arith, ints, p.lower, p.filled, p.upper); greatest = p.upper } })
  | inr g ↦ (
      let g2 : length c ≤ j = omega (arith, h.long) in
      rw (get_or_past b j (pos 0, pos 0) g, get_or_past c j (pos 0, pos 0) g2) record { lower = record { least = omega (arith, ints); greatest = omega (arith, ints) }; upper = record { least = omega (arith, ints); greatest = omega (arith, ints) } }
      )
]

chosen_above : (c : Bool) (z u v : ℤ) → z ≤ℤ u → z ≤ℤ v → z ≤ℤ cond c u v
chosen_above true z u v h k = h
chosen_above false z u v h k = k

chosen_below : (c : Bool) (z u v : ℤ) → u ≤ℤ z → v ≤ℤ z → cond c u v ≤ℤ z
chosen_below true z u v h k = h
chosen_below false z u v h k = k

least_term : (a : ℤ) (r q : ℤ × ℤ) → IsNested r q → term_least a r ≤ℤ term_least a q
least_term a r q n = chosen_above (int_le (pos 0) a) (term_least a r) (a *ℤ q.0) (a *ℤ q.1) (least-le-term a q.0 r n.lower) (least-le-term a q.1 r n.upper)

most_term : (a : ℤ) (r q : ℤ × ℤ) → IsNested r q → term_most a q ≤ℤ term_most a r
most_term a r q n = chosen_below (int_le (pos 0) a) (term_most a r) (a *ℤ q.1) (a *ℤ q.0) (term-le-most a q.1 r n.upper) (term-le-most a q.0 r n.lower)

pub least_inside : (b c : Bounds) (ts : List Term) → IsInside b c → least_over b ts ≤ℤ least_over c ts
least_inside b c [] h = omega (arith, ints)
least_inside b c (t ∷ ts) h = omega (arith, ints, least_inside b c ts h, least_term t.1 (range_at b t.0) (range_at c t.0) (nested_at b c t.0 h))

pub most_inside : (b c : Bounds) (ts : List Term) → IsInside b c → most_over c ts ≤ℤ most_over b ts
most_inside b c [] h = omega (arith, ints)
most_inside b c (t ∷ ts) h = omega (arith, ints, most_inside b c ts h, most_term t.1 (range_at b t.0) (range_at c t.0) (nested_at b c t.0 h))

low_down : (side : Option ℤ) (v w : ℤ) → w ≤ℤ v → not (is_at_least side v) ≡ true → not (is_at_least side w) ≡ true
low_down None v w h e = e
low_down (Some s) v w h e = grind (arith, ints)

high_up : (side : Option ℤ) (v w : ℤ) → v ≤ℤ w → not (is_at_most side v) ≡ true → not (is_at_most side w) ≡ true
high_up None v w h e = e
high_up (Some s) v w h e = grind (arith, ints)

pub low_inside : (b c : Bounds) (row : Row) → IsInside b c → is_low row (span_of b row) ≡ true → is_low row (span_of c row) ≡ true
low_inside b c row h e = low_down row.lo (most_over b row.terms) (most_over c row.terms) (most_inside b c row.terms h) e

pub high_inside : (b c : Bounds) (row : Row) → IsInside b c → is_high row (span_of b row) ≡ true → is_high row (span_of c row) ≡ true
high_inside b c row h e = high_up row.hi (least_over b row.terms) (least_over c row.terms) (least_inside b c row.terms h) e

-- ---- one point

record IsOne (r : ℤ × ℤ) (v : ℤ) : Type 0 where
  lower : r.0 ≡ v
  upper : r.1 ≡ v

one_at : (b : Bounds) (x : List ℤ) (j : ℕ) → IsPointBox b x → IsOne (range_at b j) (coordinate x j)
one_at b x j h = elim (cases_lt j (length b)) [
  | inl l ↦ (let v : IsBetween (range_at b j) (coordinate x j) = h.within.each j l in let e = h.single j l in record { lower = omega (arith, ints, v.least, v.greatest); upper = omega (arith, ints, v.least, v.greatest) })
  | inr g ↦ (
      let g2 : length x ≤ j = omega (arith, h.within.long) in
      rw (get_or_past b j (pos 0, pos 0) g, get_or_past x j (pos 0) g2) record { lower = refl; upper = refl }
      )
]

chosen_one : (c : Bool) (u v w : ℤ) → u ≡ w → v ≡ w → cond c u v ≡ w
chosen_one true u v w h k = h
chosen_one false u v w h k = k

pub least_point : (b : Bounds) (x : List ℤ) (ts : List Term) → IsPointBox b x → least_over b ts ≡ sum_at ts x
least_point b x [] h = refl
least_point b x (t ∷ ts) h =
    let one : IsOne (range_at b t.0) (coordinate x t.0) = one_at b x t.0 h in
    ap₂ (λ (u v : ℤ). u +ℤ v) (chosen_one (int_le (pos 0) t.1) (t.1 *ℤ (range_at b t.0).0) (t.1 *ℤ (range_at b t.0).1) (t.1 *ℤ coordinate x t.0) (ap (λ (z : ℤ). t.1 *ℤ z) one.lower) (ap (λ (z : ℤ). t.1 *ℤ z) one.upper)) (least_point b x ts h)

pub most_point : (b : Bounds) (x : List ℤ) (ts : List Term) → IsPointBox b x → most_over b ts ≡ sum_at ts x
most_point b x [] h = refl
most_point b x (t ∷ ts) h =
    let one : IsOne (range_at b t.0) (coordinate x t.0) = one_at b x t.0 h in
    ap₂ (λ (u v : ℤ). u +ℤ v) (chosen_one (int_le (pos 0) t.1) (t.1 *ℤ (range_at b t.0).1) (t.1 *ℤ (range_at b t.0).0) (t.1 *ℤ coordinate x t.0) (ap (λ (z : ℤ). t.1 *ℤ z) one.upper) (ap (λ (z : ℤ). t.1 *ℤ z) one.lower)) (most_point b x ts h)
