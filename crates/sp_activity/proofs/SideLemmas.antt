-- A split that closes a side closes the least part of it.
use Rattle.std.proofs.Common.{◌≡◌, ◌≢◌, ℕ, zero, suc, ◌<◌, Bool, true, false, nat_eq, [], ◌∷◌, length, set, refl, sym, ap, ◌∙◌, subst, arith, ℤ, pos, ◌+ℤ◌, ◌≤ℤ◌, ◌<ℤ◌, get_or-set_same, get_or-set_other}
use Rattle.std.proofs.lemmas.Bool.Decides.{nat_tests}
use Rattle.std.proofs.lemmas.Int.{ints}
use Rattle.std.proofs.lemmas.List.{length-set, set-set, set-get_or}
use Rattle.sp_model.specs.declared.parts.ModelParts.{ModelParts}
use Rattle.sp_model.specs.Boxes.{Bounds, above, below, range_at}
use Rattle.sp_sums.specs.Ranges.{IsInside, IsPart}
use Rattle.sp_activity.specs.declared.reasons.Reason.{Reason}
use Rattle.sp_activity.specs.declared.sides.Side.{Side}
use Rattle.sp_activity.specs.declared.sides.Side.TheVariants.{Left, Right}
use Rattle.sp_activity.specs.Order.{IsOpen}
use Rattle.sp_activity.specs.Reasons.{Holds}
use Rattle.sp_activity.specs.Sides.{HasReason, IsLooseAt, IsTight, NothingTight}

pub below-set : (b : Bounds) (v : ℕ) (at : ℤ) → below b v at ≡ set b v ((range_at b v).0, at)
below-set [] v at = refl
below-set (r ∷ rs) zero at = refl
below-set (r ∷ rs) (suc v) at = ap (λ b. r ∷ b) (below-set rs v at)

pub above-set : (b : Bounds) (v : ℕ) (at : ℤ) → above b v at ≡ set b v (at +ℤ pos 1, (range_at b v).1)
above-set [] v at = refl
above-set (r ∷ rs) zero at = refl
above-set (r ∷ rs) (suc v) at = ap (λ b. r ∷ b) (above-set rs v at)

same_number : (a b : ℕ) → nat_eq a b ≡ true → a ≡ b
same_number a b e = grind (arith, nat_tests)

other_number : (a b : ℕ) → nat_eq a b ≡ false → a ≢ b
other_number a b e = grind (arith, nat_tests)

-- two boxes that differ in one range
inside_at : (root b : Bounds) (v : ℕ) (p q : ℤ × ℤ) (j : ℕ) (c : Bool) → nat_eq j v ≡ c → v < length b → IsInside root b → j < length b → IsPart p q → IsPart (range_at (set b v p) j) (range_at (set b v q) j)
inside_at root b v p q j true e l i h s =
    let same : j ≡ v = same_number j v e in
    rw (same, get_or-set_same b v p (pos 0, pos 0) l, get_or-set_same b v q (pos 0, pos 0) l) s
inside_at root b v p q j false e l i h s =
    let other : j ≢ v = other_number j v e in
    let part : IsPart (range_at root j) (range_at b j) = i.each j (omega (arith, i.long)) in
    rw (get_or-set_other b v j p (pos 0, pos 0) other, get_or-set_other b v j q (pos 0, pos 0) other) record { lower = omega (arith, ints); filled = part.filled; upper = omega (arith, ints) }

inside_parts : (root b : Bounds) (v : ℕ) (p q : ℤ × ℤ) → v < length b → IsInside root b → IsPart p q → IsInside (set b v p) (set b v q)
inside_parts root b v p q l i s = record {
  long = length-set b v q ∙ sym (length-set b v p);
  each = λ j h. inside_at root b v p q j (nat_eq j v) refl l i (omega (arith, length-set b v p)) s;
}

inside_step : (root b : Bounds) (v : ℕ) (q : ℤ × ℤ) (j : ℕ) (c : Bool) → nat_eq j v ≡ c → v < length b → IsPart (range_at root v) q → IsPart (range_at root j) (range_at b j) → IsPart (range_at root j) (range_at (set b v q) j)
inside_step root b v q j true e l p o =
    let same : j ≡ v = same_number j v e in
    rw (same, get_or-set_same b v q (pos 0, pos 0) l) p
inside_step root b v q j false e l p o =
    rw (get_or-set_other b v j q (pos 0, pos 0) (other_number j v e)) o

-- a box inside stays inside where one range becomes another part of the root's
pub inside_set : (root b : Bounds) (v : ℕ) (q : ℤ × ℤ) → v < length b → IsInside root b → IsPart (range_at root v) q → IsInside root (set b v q)
inside_set root b v q l i p = record {
  long = length-set b v q ∙ i.long;
  each = λ j h. inside_step root b v q j (nat_eq j v) refl l p (i.each j h);
}

abbrev pub ReasonsStay : Type 0
ReasonsStay = (m : ModelParts) (b inner : Bounds) (r : Reason) → IsInside b inner → Holds m b r → Holds m inner r

-- neither end closes: nothing of the variable does
pub loose_at : (m : ModelParts) (root b : Bounds) (v : ℕ) → ReasonsStay → v < length b → IsInside root b → IsOpen m (set b v ((range_at b v).0, (range_at b v).0)) → IsOpen m (set b v ((range_at b v).1, (range_at b v).1)) → IsLooseAt m b v
loose_at m root b v s l i low high = record { none = loose }
  where
    loose : (at : ℤ) (side : Side) → ¬ IsTight m b v at side
    loose at Left t =
        let whole : Holds m (set b v ((range_at b v).0, at)) t.closed.reason = subst (λ (x : Bounds). Holds m x t.closed.reason) (below-set b v at) t.closed.holds in
        let least = t.split.least in
        let part : IsPart ((range_at b v).0, at) ((range_at b v).0, (range_at b v).0) = record { lower = omega (arith, ints); filled = omega (arith, ints); upper = least } in
        low.each t.closed.reason (s m (set b v ((range_at b v).0, at)) (set b v ((range_at b v).0, (range_at b v).0)) t.closed.reason (inside_parts root b v ((range_at b v).0, at) ((range_at b v).0, (range_at b v).0) l i part) whole)
    loose at Right t =
        let whole : Holds m (set b v (at +ℤ pos 1, (range_at b v).1)) t.closed.reason = subst (λ (x : Bounds). Holds m x t.closed.reason) (above-set b v at) t.closed.holds in
        let most = t.split.greatest in
        let part : IsPart (at +ℤ pos 1, (range_at b v).1) ((range_at b v).1, (range_at b v).1) = record { lower = omega (arith, ints); filled = omega (arith, ints); upper = omega (arith, ints) } in
        high.each t.closed.reason (s m (set b v (at +ℤ pos 1, (range_at b v).1)) (set b v ((range_at b v).1, (range_at b v).1)) t.closed.reason (inside_parts root b v (at +ℤ pos 1, (range_at b v).1) ((range_at b v).1, (range_at b v).1) l i part) whole)

-- a range of one value can't be split
pub loose_single : (m : ModelParts) (b : Bounds) (v : ℕ) → (range_at b v).1 ≤ℤ (range_at b v).0 → IsLooseAt m b v
loose_single m b v e = record { none = λ at side t. (let l = t.split.least in let g = t.split.greatest in omega (arith, ints)) }

-- an end that closes is a place
pub tight_left : (m : ModelParts) (b : Bounds) (v : ℕ) (at : ℤ) → v < length b → at ≡ (range_at b v).0 → (range_at b v).0 <ℤ (range_at b v).1 → HasReason m (set b v (at, at)) → IsTight m b v at Left
tight_left m b v at l e h r = record {
  split = record { known = l; least = omega (arith, ints); greatest = omega (arith, ints) };
  closed = subst (λ (x : Bounds). HasReason m x) (ap (λ (z : ℤ). set b v (z, at)) e ∙ sym (below-set b v at)) r;
}

pub tight_right : (m : ModelParts) (b : Bounds) (v : ℕ) (at top : ℤ) → v < length b → top ≡ (range_at b v).1 → at +ℤ pos 1 ≡ top → (range_at b v).0 <ℤ (range_at b v).1 → HasReason m (set b v (top, top)) → IsTight m b v at Right
tight_right m b v at top l e f h r = record {
  split = record { known = l; least = omega (arith, ints); greatest = omega (arith, ints) };
  closed = subst (λ (x : Bounds). HasReason m x) (ap (λ (z : ℤ). set b v (z, top)) (sym f) ∙ ap (λ (z : ℤ). set b v (at +ℤ pos 1, z)) e ∙ sym (above-set b v at)) r;
}

-- no variable has a place
pub all_loose : (m : ModelParts) (b : Bounds) → ((v : ℕ) → v < length b → IsLooseAt m b v) → NothingTight m b
all_loose m b f = record { none = λ v at side t. (f v t.split.known).none at side t }

-- the box is as before
pub put_back : (b : Bounds) (v : ℕ) (q : ℤ × ℤ) → set (set b v q) v (range_at b v) ≡ b
put_back b v q = set-set b v q (range_at b v) ∙ set-get_or b v (pos 0, pos 0)
