-- Sums over a box: how great they are, and what they are after one range changed.
use Rattle.std.proofs.Common.{◌≡◌, ◌≢◌, ℕ, ◌+◌, ◌*◌, ◌<◌, ◌≤◌, Bool, true, false, cond, nat_eq, inl, inr, List, [], ◌∷◌, length, set, ℤ, pos, ◌+ℤ◌, ◌-ℤ◌, ◌*ℤ◌, int_le, refl, ap, arith, get_or-set_same, get_or-set_other}
use Rattle.std.proofs.Math.Nat.{mul-le-mul_left}
use Rattle.std.proofs.lemmas.Bool.{cases_lt}
use Rattle.std.proofs.lemmas.Bool.Decides.{nat_tests}
use Rattle.std.proofs.lemmas.List.{get_or_past}
use Rattle.std.proofs.lemmas.Int.{ints, unsigned_abs-mul}
use Rattle.std.specs.Int.RustNames.{unsigned_abs}
use Rattle.sp_model.specs.Boxes.{Bounds, range_at}
use Rattle.sp_model.specs.Sums.{Term, reach, width_over}
use Rattle.sp_sums.specs.Extremes.{term_least, term_most, sum_over}
use Rattle.sp_sums.specs.Ranges.{IsPart, IsInside}

-- ---- how great

-- neither end of the range is farther than n from 0
pub record IsWithinReach (n : ℕ) (r : ℤ × ℤ) : Type 0 where
  pub lower : unsigned_abs r.0 ≤ n
  pub upper : unsigned_abs r.1 ≤ n

pub part_reach : (q r : ℤ × ℤ) → IsPart q r → IsWithinReach (reach q) r
part_reach q r h = record { lower = omega (arith, ints); upper = omega (arith, ints) }

zero_reach : (n : ℕ) → IsWithinReach n (pos 0, pos 0)
zero_reach n = record { lower = omega arith; upper = omega arith }

pub inside_reach : (root b : Bounds) → IsInside root b → (j : ℕ) → IsWithinReach (reach (range_at root j)) (range_at b j)
inside_reach root b h j = elim (cases_lt j (length root)) [
  | inl l ↦ part_reach (range_at root j) (range_at b j) (h.each j l)
  | inr g ↦ (let g2 : length b ≤ j = omega (arith, h.long) in rw (get_or_past b j (pos 0, pos 0) g2) (zero_reach (reach (range_at root j))))
]

product-le : (a v : ℤ) (n : ℕ) → unsigned_abs v ≤ n → unsigned_abs (a *ℤ v) ≤ unsigned_abs a * n
product-le a v n h = rw unsigned_abs-mul (mul-le-mul_left (unsigned_abs a) h)

-- a choice between two products
chosen-le : (c : Bool) (v w : ℤ) (n : ℕ) → unsigned_abs v ≤ n → unsigned_abs w ≤ n → unsigned_abs (cond c v w) ≤ n
chosen-le true v w n p q = p
chosen-le false v w n p q = q

-- a term's value over a range is no greater than its width
abbrev pub IsBounded : (ℤ → ℤ × ℤ → ℤ) → Type 0
IsBounded f = (a : ℤ) (r : ℤ × ℤ) (n : ℕ) → IsWithinReach n r → unsigned_abs (f a r) ≤ unsigned_abs a * n

pub least_bounded : IsBounded term_least
least_bounded a r n h = chosen-le (int_le (pos 0) a) (a *ℤ r.0) (a *ℤ r.1) (unsigned_abs a * n) (product-le a r.0 n h.lower) (product-le a r.1 n h.upper)

pub most_bounded : IsBounded term_most
most_bounded a r n h = chosen-le (int_le (pos 0) a) (a *ℤ r.1) (a *ℤ r.0) (unsigned_abs a * n) (product-le a r.1 n h.upper) (product-le a r.0 n h.lower)

abs-add : (a b : ℤ) → unsigned_abs (a +ℤ b) ≤ unsigned_abs a + unsigned_abs b
abs-add a b = omega (arith, ints)

-- a box within another is no wider
width_step : (a : ℤ) (n k rest more : ℕ) → n ≤ k → rest ≤ more → unsigned_abs a * n + rest ≤ unsigned_abs a * k + more
width_step a n k rest more h l = omega (arith, mul-le-mul_left (unsigned_abs a) h)

max_below : (n : ℕ) (r : ℤ × ℤ) → 1 ≤ n → IsWithinReach n r → reach r ≤ n
max_below n r one h = omega (arith, h.lower, h.upper)

reach_positive : (r : ℤ × ℤ) → 1 ≤ reach r
reach_positive r = omega arith

pub width_inside : (root b : Bounds) → IsInside root b → (ts : List Term) → width_over b ts ≤ width_over root ts
width_inside root b h [] = omega arith
width_inside root b h (t ∷ ts) =
    width_step t.1 (reach (range_at b t.0)) (reach (range_at root t.0)) (width_over b ts) (width_over root ts)
    (max_below (reach (range_at root t.0)) (range_at b t.0) (reach_positive (range_at root t.0)) (inside_reach root b h t.0))
    (width_inside root b h ts)

pub own_reach : (r : ℤ × ℤ) → IsWithinReach (reach r) r
own_reach r = record { lower = omega (arith, ints); upper = omega (arith, ints) }

pub sum-le-width : (f : ℤ → ℤ × ℤ → ℤ) → IsBounded f → (root b : Bounds) → IsInside root b → (ts : List Term) → unsigned_abs (sum_over f b ts) ≤ width_over root ts
sum-le-width f p root b h [] = omega arith
sum-le-width f p root b h (t ∷ ts) =
    omega (arith, sum-le-width f p root b h ts, abs-add (f t.1 (range_at b t.0)) (sum_over f b ts), p t.1 (range_at b t.0) (reach (range_at root t.0)) (inside_reach root b h t.0))

-- ---- what they are after one range changed

-- the coefficients that stand beside the number
abbrev pub coefficients : ℕ → List Term → List ℤ
coefficients j [] = []
coefficients j (t ∷ ts) = cond (nat_eq t.0 j) (t.1 ∷ coefficients j ts) (coefficients j ts)

-- what these coefficients change
abbrev pub shift : (ℤ → ℤ × ℤ → ℤ) → ℤ × ℤ → ℤ × ℤ → List ℤ → ℤ
shift f r q [] = pos 0
shift f r q (a ∷ cs) = (f a q -ℤ f a r) +ℤ shift f r q cs

-- their magnitudes, added up
abbrev pub weight : List ℤ → ℕ
weight [] = 0
weight (a ∷ cs) = unsigned_abs a + weight cs

set_step : (f : ℤ → ℤ × ℤ → ℤ) (b : Bounds) (j : ℕ) (q : ℤ × ℤ) (t : Term) (ts : List Term) (c : Bool) → nat_eq t.0 j ≡ c → j < length b → sum_over f (set b j q) ts ≡ sum_over f b ts +ℤ shift f (range_at b j) q (coefficients j ts) → f t.1 (range_at (set b j q) t.0) +ℤ sum_over f (set b j q) ts ≡ (f t.1 (range_at b t.0) +ℤ sum_over f b ts) +ℤ shift f (range_at b j) q (cond c (t.1 ∷ coefficients j ts) (coefficients j ts))
set_step f b j q t ts true e h k =
    let same : t.0 ≡ j = grind (arith, nat_tests) in
    let new : range_at (set b j q) t.0 ≡ q = rw same (get_or-set_same b j q (pos 0, pos 0) h) in
    let old : range_at b t.0 ≡ range_at b j = ap (range_at b) same in
    rw (new, old) (omega (arith, ints))
set_step f b j q t ts false e h k =
    let other : t.0 ≢ j = grind (arith, nat_tests) in
    let new : range_at (set b j q) t.0 ≡ range_at b t.0 = get_or-set_other b j t.0 q (pos 0, pos 0) other in
    rw new (omega (arith, ints))

pub sum-set : (f : ℤ → ℤ × ℤ → ℤ) (b : Bounds) (j : ℕ) (q : ℤ × ℤ) → j < length b → (ts : List Term) → sum_over f (set b j q) ts ≡ sum_over f b ts +ℤ shift f (range_at b j) q (coefficients j ts)
sum-set f b j q h [] = refl
sum-set f b j q h (t ∷ ts) = set_step f b j q t ts (nat_eq t.0 j) refl h (sum-set f b j q h ts)

-- the weight of a variable's coefficients is part of the width
weight_step : (root : Bounds) (j : ℕ) (t : Term) (ts : List Term) (c : Bool) → nat_eq t.0 j ≡ c → weight (coefficients j ts) * reach (range_at root j) ≤ width_over root ts → weight (cond c (t.1 ∷ coefficients j ts) (coefficients j ts)) * reach (range_at root j) ≤ unsigned_abs t.1 * reach (range_at root t.0) + width_over root ts
weight_step root j t ts true e h =
    let same : t.0 ≡ j = grind (arith, nat_tests) in
    rw same (omega (arith, h))
weight_step root j t ts false e h = omega (arith, h)

pub weight-le-width : (root : Bounds) (j : ℕ) (ts : List Term) → weight (coefficients j ts) * reach (range_at root j) ≤ width_over root ts
weight-le-width root j [] = omega arith
weight-le-width root j (t ∷ ts) = weight_step root j t ts (nat_eq t.0 j) refl (weight-le-width root j ts)

abs-sub : (a b : ℤ) → unsigned_abs (a -ℤ b) ≤ unsigned_abs a + unsigned_abs b
abs-sub a b = omega (arith, ints)

pub shift-le : (f : ℤ → ℤ × ℤ → ℤ) → IsBounded f → (n : ℕ) (r q : ℤ × ℤ) → IsWithinReach n r → IsWithinReach n q → (cs : List ℤ) → unsigned_abs (shift f r q cs) ≤ 2 * (weight cs * n)
shift-le f p n r q hr hq [] = omega arith
shift-le f p n r q hr hq (a ∷ cs) =
    omega (arith, shift-le f p n r q hr hq cs, abs-add (f a q -ℤ f a r) (shift f r q cs), abs-sub (f a q) (f a r), p a r n hr, p a q n hq)
