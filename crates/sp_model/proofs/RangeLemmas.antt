-- A box as the list of its least and the list of its greatest values.
use Rattle.std.proofs.Common.{◌≡◌, ℕ, zero, suc, ◌+◌, ◌*◌, ◌<◌, List, [], ◌∷◌, ◌++◌, length, get_or, set, drop, ℤ, pos, ◌+ℤ◌, ◌<ℤ◌, FitsSigned, w64, refl, sym, ap, ◌∙◌, subst, arith, le_of_suc-le-suc, not-suc-le-zero, drop-cons, add-one, mul_assoc}
use Rattle.std.proofs.lemmas.Int.{ints}
use Rattle.sp_model.specs.Boxes.{Bounds, ranges, range_at, width_of, point_count, below, above}

-- ---- boxes as two lists

pub length_ranges : (ls us : List ℤ) → length us ≡ length ls → length (ranges ls us) ≡ length ls
length_ranges [] us e = refl
length_ranges (l ∷ ls) [] e = absurd (let h : 0 ≡ suc (length ls) = e in omega arith)
length_ranges (l ∷ ls) (u ∷ us) e = let h : suc (length us) ≡ suc (length ls) = e in ap suc (length_ranges ls us (cc))

pub range_of_ranges : (ls us : List ℤ) (j : ℕ) → length us ≡ length ls → j < length ls → range_at (ranges ls us) j ≡ (get_or ls j (pos 0), get_or us j (pos 0))
range_of_ranges [] us j e h = absurd (not-suc-le-zero h)
range_of_ranges (l ∷ ls) [] j e h = absurd (let k : 0 ≡ suc (length ls) = e in omega arith)
range_of_ranges (l ∷ ls) (u ∷ us) zero e h = refl
range_of_ranges (l ∷ ls) (u ∷ us) (suc j) e h = let k : suc (length us) ≡ suc (length ls) = e in range_of_ranges ls us j (cc) (le_of_suc-le-suc h)

pub below_ranges : (ls us : List ℤ) (v : ℕ) (at : ℤ) → ranges ls (set us v at) ≡ below (ranges ls us) v at
below_ranges [] us v at = refl
below_ranges (l ∷ ls) [] v at = refl
below_ranges (l ∷ ls) (u ∷ us) zero at = refl
below_ranges (l ∷ ls) (u ∷ us) (suc v) at = ap (λ b. (l, u) ∷ b) (below_ranges ls us v at)

pub above_ranges : (ls us : List ℤ) (v : ℕ) (at : ℤ) → ranges (set ls v (at +ℤ pos 1)) us ≡ above (ranges ls us) v at
above_ranges [] us v at = refl
above_ranges (l ∷ ls) [] zero at = refl
above_ranges (l ∷ ls) [] (suc v) at = refl
above_ranges (l ∷ ls) (u ∷ us) zero at = refl
above_ranges (l ∷ ls) (u ∷ us) (suc v) at = ap (λ b. (l, u) ∷ b) (above_ranges ls us v at)

-- ---- one variable after another: the widths from place i on, and the product of those before it

pub drop_ranges : (ls us : List ℤ) (i : ℕ) → i < length ls → length us ≡ length ls → point_count (ranges (drop i ls) (drop i us)) ≡ width_of (get_or ls i (pos 0), get_or us i (pos 0)) * point_count (ranges (drop (i + 1) ls) (drop (i + 1) us))
drop_ranges ls us i h e =
    let k : i < length us = omega arith in
    let lows = drop-cons ls i (pos 0) h in
    let highs = drop-cons us i (pos 0) k in
    rw (add-one, lows, highs) refl

-- ---- the box as code sees it: its two lists, read by a call each

-- a known variable has a place in both lists
pub place_in_lower : (ls us : List ℤ) (b : Bounds) (v : ℕ) → ranges ls us ≡ b → length us ≡ length ls → v < length b → v < length ls
place_in_lower ls us b v e paired h = let long = length_ranges ls us paired in let same = ap length e in omega arith

pub place_in_upper : (ls us : List ℤ) (b : Bounds) (v : ℕ) → ranges ls us ≡ b → length us ≡ length ls → v < length b → v < length us
place_in_upper ls us b v e paired h = let k = place_in_lower ls us b v e paired h in omega arith

pub range_is : (ls us : List ℤ) (b : Bounds) (v : ℕ) → ranges ls us ≡ b → length us ≡ length ls → v < length b → (get_or ls v (pos 0), get_or us v (pos 0)) ≡ range_at b v
range_is ls us b v e paired h = sym (range_of_ranges ls us v paired (place_in_lower ls us b v e paired h)) ∙ ap (λ b. range_at b v) e

pub below_is_ranges : (ls us : List ℤ) (b : Bounds) (v : ℕ) (at : ℤ) → ranges ls us ≡ b → ranges ls (set us v at) ≡ below b v at
below_is_ranges ls us b v at e = below_ranges ls us v at ∙ ap (λ b. below b v at) e

pub above_is_ranges : (ls us : List ℤ) (b : Bounds) (v : ℕ) (at : ℤ) → ranges ls us ≡ b → ranges (set ls v (at +ℤ pos 1)) us ≡ above b v at
above_is_ranges ls us b v at e = above_ranges ls us v at ∙ ap (λ b. above b v at) e

-- one more width in the product
pub product_step : (count width rest next whole product : ℕ) → count * rest ≡ whole → rest ≡ width * next → product ≡ count * width → product * next ≡ whole
product_step count width rest next whole product e f g = rw (g, mul_assoc) (rw (← f) e)

-- the number after one below a range's greatest value fits where both do
pub next_fits : (ls us : List ℤ) (b : Bounds) (v : ℕ) (at : ℤ) → ranges ls us ≡ b → length us ≡ length ls → v < length b → at <ℤ (range_at b v).1 → FitsSigned w64 at → FitsSigned w64 (get_or us v (pos 0)) → FitsSigned w64 (at +ℤ pos 1)
next_fits ls us b v at e paired h room fits top =
    let below_top : at <ℤ get_or us v (pos 0) = subst (λ (r : ℤ × ℤ). at <ℤ r.1) (sym (range_is ls us b v e paired h)) room in
    omega (arith, ints)

-- ---- another range for one variable, and one more variable

pub set_ranges : (ls us : List ℤ) (v : ℕ) (l u : ℤ) → ranges (set ls v l) (set us v u) ≡ set (ranges ls us) v (l, u)
set_ranges [] us v l u = refl
set_ranges (k ∷ ls) [] zero l u = refl
set_ranges (k ∷ ls) [] (suc v) l u = refl
set_ranges (k ∷ ls) (w ∷ us) zero l u = refl
set_ranges (k ∷ ls) (w ∷ us) (suc v) l u = ap (λ b. (k, w) ∷ b) (set_ranges ls us v l u)

pub set_is_ranges : (ls us : List ℤ) (b : Bounds) (v : ℕ) (l u : ℤ) → ranges ls us ≡ b → ranges (set ls v l) (set us v u) ≡ set b v (l, u)
set_is_ranges ls us b v l u e = set_ranges ls us v l u ∙ ap (λ (c : Bounds). set c v (l, u)) e

pub push_ranges : (ls us : List ℤ) (l u : ℤ) → length us ≡ length ls → ranges (ls ++ l ∷ []) (us ++ u ∷ []) ≡ ranges ls us ++ (l, u) ∷ []
push_ranges [] [] l u e = refl
push_ranges [] (w ∷ us) l u e = absurd (omega arith)
push_ranges (k ∷ ls) [] l u e = absurd (omega arith)
push_ranges (k ∷ ls) (w ∷ us) l u e = ap (λ b. (k, w) ∷ b) (push_ranges ls us l u (omega arith))
