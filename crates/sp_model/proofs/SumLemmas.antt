-- Sums of terms: how great they can be within a box, and a step of a loop that adds them up.
use Rattle.std.proofs.Common.{◌≡◌, ℕ, suc, ◌+◌, ◌-◌, ◌*◌, ◌/◌, ◌^◌, ◌<◌, ◌≤◌, inl, inr, List, [], ◌∷◌, length, get_or, drop, ℤ, pos, ◌+ℤ◌, ◌*ℤ◌, sym, ap, ◌∙◌, add-one, drop-cons, arith}
use Rattle.std.proofs.Math.Nat.{mul-le-mul_left, mul-le-mul_right, div-lt_iff_lt-mul, div-mul-le_self}
use Rattle.std.proofs.lemmas.Bool.{cases_lt}
use Rattle.std.proofs.lemmas.List.{get_or_past}
use Rattle.std.proofs.lemmas.Int.{ints, to_z-of_z, unsigned_abs-mul, fits_signed_from_abs}
use Rattle.std.specs.Int.RustNames.{FitsSigned, unsigned_abs}
use mir.Syntax.{w128}
use mir.Val.{to_z, of_z}
use Rattle.sp_model.specs.Boxes.{Bounds, range_at, coordinate, IsBetween, IsWithin}
use Rattle.sp_model.specs.Sums.{Term, sum_at, magnitude, reach, width_over}

-- a value of the range is no farther from 0 than the range reaches
pub value-le-reach : (r : ℤ × ℤ) (v : ℤ) → IsBetween r v → unsigned_abs v ≤ reach r
value-le-reach r v h = omega (arith, ints)

-- a term's magnitude is at most the magnitude of its coefficient times the reach
pub term-le-reach : (a v : ℤ) (n : ℕ) → unsigned_abs v ≤ n → unsigned_abs (a *ℤ v) ≤ unsigned_abs a * n
term-le-reach a v n h = rw unsigned_abs-mul (mul-le-mul_left (unsigned_abs a) h)

-- a value of a point is within its variable's reach, also past the last variable, where both are 0
pub entry-le-reach : (b : Bounds) (x : List ℤ) (j : ℕ) → IsWithin b x → unsigned_abs (coordinate x j) ≤ reach (range_at b j)
entry-le-reach b x j h = elim (cases_lt j (length b)) [ inl l ↦ value-le-reach (range_at b j) (coordinate x j) (h.each j l) | inr g ↦ rw (get_or_past x j (pos 0) (omega (arith, h.long))) (omega arith) ]

-- at a point of the box the magnitude of a sum is at most its width
pub magnitude-le-width : (b : Bounds) (ts : List Term) (x : List ℤ) → IsWithin b x → magnitude ts x ≤ width_over b ts
magnitude-le-width b [] x h = omega arith
magnitude-le-width b (t ∷ ts) x h =
    omega (arith, magnitude-le-width b ts x h, term-le-reach t.1 (coordinate x t.0) (reach (range_at b t.0)) (entry-le-reach b x t.0 h))

-- a number of a magnitude of at most 10^36 fits 128 bits
pub fits_from_small : (z : ℤ) → unsigned_abs z ≤ 10 ^ 36 → FitsSigned w128 z
fits_from_small z h = fits_signed_from_abs w128 z (omega arith)

-- the next term of what is left
pub drop_item : {X : Type 0} (xs : List X) (i : ℕ) (x : X) → i < length xs → x ≡ get_or xs i x → drop i xs ≡ x ∷ drop (i + 1) xs
drop_item xs i x h e = rw add-one (drop-cons xs i x h ∙ ap (λ v. v ∷ drop (suc i) xs) (sym e))

-- a step of a loop that adds a term to a sum, stated by what is left
pub record SumStep (s v : ℤ) (rest : List Term) (x : List ℤ) (whole : ℤ) : Type 0 where
  pub fits : FitsSigned w128 (s +ℤ v)
  pub same : to_z w128 (of_z w128 (s +ℤ v)) +ℤ sum_at rest x ≡ whole
  pub small : unsigned_abs (to_z w128 (of_z w128 (s +ℤ v))) + magnitude rest x ≤ 10 ^ 36

abs-add : (a b : ℤ) → unsigned_abs (a +ℤ b) ≤ unsigned_abs a + unsigned_abs b
abs-add a b = omega (arith, ints)

pub sum_step : (s v u : ℤ) (rest : List Term) (x : List ℤ) (whole : ℤ) → u ≡ v → s +ℤ (v +ℤ sum_at rest x) ≡ whole → unsigned_abs s + (unsigned_abs v + magnitude rest x) ≤ 10 ^ 36 → SumStep s u rest x whole
sum_step s v u rest x whole e h k =
    let bound : unsigned_abs (s +ℤ v) + magnitude rest x ≤ 10 ^ 36 = omega (arith, abs-add s v) in
    let f : FitsSigned w128 (s +ℤ v) = fits_from_small (s +ℤ v) (omega arith) in
    let r : to_z w128 (of_z w128 (s +ℤ v)) ≡ s +ℤ v = to_z-of_z w128 (s +ℤ v) f in
    let made : SumStep s v rest x whole = record { fits = f; same = rw r (omega (arith, ints)); small = rw r bound } in
    rw e made

-- the same at the next term of a list
pub sum_turn : (ts : List Term) (i : ℕ) (t : Term) (x : List ℤ) (s u : ℤ) (whole : ℤ) → i < length ts → t ≡ get_or ts i t → u ≡ t.1 *ℤ coordinate x t.0 → s +ℤ sum_at (drop i ts) x ≡ whole → unsigned_abs s + magnitude (drop i ts) x ≤ 10 ^ 36 → SumStep s u (drop (i + 1) ts) x whole
sum_turn ts i t x s u whole h e q p k =
    let d : drop i ts ≡ t ∷ drop (i + 1) ts = drop_item ts i t h e in
    sum_step s (t.1 *ℤ coordinate x t.0) u (drop (i + 1) ts) x whole q (rw d at p) (rw d at k)

pub term_small : (ts : List Term) (i : ℕ) (t : Term) (x : List ℤ) (s : ℤ) → i < length ts → t ≡ get_or ts i t → unsigned_abs s + magnitude (drop i ts) x ≤ 10 ^ 36 → unsigned_abs (t.1 *ℤ coordinate x t.0) ≤ 10 ^ 36
term_small ts i t x s h e k =
    let d : drop i ts ≡ t ∷ drop (i + 1) ts = drop_item ts i t h e in
    let m : unsigned_abs s + (unsigned_abs (t.1 *ℤ coordinate x t.0) + magnitude (drop (i + 1) ts) x) ≤ 10 ^ 36 = rw d at k in
    omega arith

-- a step of a loop that takes the width of each term off the room: what is left of the terms
pub width_turn : (b : Bounds) (ts : List Term) (i : ℕ) (t : Term) → i < length ts → t ≡ get_or ts i t → width_over b (drop i ts) ≡ unsigned_abs t.1 * reach (range_at b t.0) + width_over b (drop (i + 1) ts)
width_turn b ts i t h e = ap (width_over b) (drop_item ts i t h e)

-- a term that is wider than what is left of the room
pub too_wide : (left size n : ℕ) → 0 < n → left / n < size → left < size * n
too_wide left size n p h = (div-lt_iff_lt-mul p).0 h

-- a term that isn't
pub wide_enough : (left size n : ℕ) → size ≤ left / n → size * n ≤ left
wide_enough left size n h = omega (arith, mul-le-mul_right n h, div-mul-le_self left n)

-- the product of two numbers that are known by equations
pub same_product : (a b c d : ℕ) → a ≡ c → b ≡ d → a * b ≡ c * d
same_product a b c d p q = ap (λ k. k * b) p ∙ ap (λ k. c * k) q

pub no_room : (left room all now next size : ℕ) → left + all ≡ room + now → now ≡ size + next → left < size → all ≤ room → ⊥
no_room left room all now next size e d h k = omega arith

pub less_room : (left room all now next size : ℕ) → left + all ≡ room + now → now ≡ size + next → size ≤ left → left - size + all ≡ room + next
less_room left room all now next size e d h = omega arith
