-- Boxes: how they lie in the root's, and boxes of one point.
use Rattle.std.proofs.Common.{◌≡◌, ℕ, zero, suc, ◌+◌, ◌*◌, ◌<◌, ◌≤◌, Bool, true, false, not, List, [], ◌∷◌, map, length, ℤ, pos, negsuc, ◌+ℤ◌, ◌-ℤ◌, ◌≤ℤ◌, ◌<ℤ◌, int_le, refl, sym, ap, ap₂, ◌∙◌, arith, zero-mul}
use Rattle.std.proofs.lemmas.Int.{ints, by_lt_z}
use Rattle.std.proofs.lemmas.List.{get_or-map, length-map}
use Rattle.sp_model.specs.Boxes.{Bounds, CanSplit, IsBetween, IsWithin, coordinate, natural, point_count, range_at, ranges, width_of}
use Rattle.sp_model.specs.declared.parts.ModelParts.{ModelParts}
use Rattle.sp_sums.specs.Ranges.{IsFilled, IsInside, IsPointBox}
use Rattle.sp_activity.specs.Order.{IsOpen as IsUnreasoned}
use Rattle.sp_activity.specs.Within.{IsUnder}
use Rattle.sp_activity.specs.declared.reasons.Reason.TheVariants.{Empty}
use Rattle.sp_filter.specs.Filters.{LiesIn, box_at as point_box}
use Rattle.sp_search.specs.InnerSteps.{AreSingle}

-- ---- inside and under

pub inside-from : (root b : Bounds) → IsUnder root b → IsFilled b → IsInside root b
inside-from root b h f =
    let long = h.long in
    record { long = h.long; each = λ j j-in. let c = h.each j j-in in record { lower = c.lower; filled = f.each j (omega (arith, j-in, long)); upper = c.upper } }

pub filled-inside : (root b : Bounds) → IsInside root b → IsFilled b
filled-inside root b h = let long = h.long in record { each = λ j j-in. (h.each j (omega (arith, j-in, long))).filled }

pub lies-inside : (root b : Bounds) → IsInside root b → LiesIn root b
lies-inside root b h = record { long = h.long; each = λ j j-in. let p = h.each j j-in in (p.lower, p.filled, p.upper) }

pub under-itself : (b : Bounds) → IsUnder b b
under-itself b = record { long = refl; each = λ j j-in. record { lower = omega (arith, ints); upper = omega (arith, ints) } }

pub within-inside : (root b : Bounds) (x : List ℤ) → IsInside root b → IsWithin b x → IsWithin root x
within-inside root b x h w =
    let long = h.long in
    record {
      long = w.long ∙ h.long;
      each = λ j j-in.
          let p = h.each j j-in in
          let v = w.each j (omega (arith, j-in, long)) in
          let a = p.lower in let d = p.upper in let e = v.least in let g = v.greatest in
          record { least = omega (arith, ints, a, e); greatest = omega (arith, ints, d, g) };
    }

-- the corners of a box
lows : Bounds → List ℤ
lows b = map (λ r. r.0) b

highs : Bounds → List ℤ
highs b = map (λ r. r.1) b

low-at : (b : Bounds) (j : ℕ) → j < length b → coordinate (lows b) j ≡ (range_at b j).0
unfolding lows
low-at b j h = get_or-map (λ r. r.0) b j (pos 0, pos 0) (pos 0) h

high-at : (b : Bounds) (j : ℕ) → j < length b → coordinate (highs b) j ≡ (range_at b j).1
unfolding highs
high-at b j h = get_or-map (λ r. r.1) b j (pos 0, pos 0) (pos 0) h

low-long : (b : Bounds) → length (lows b) ≡ length b
unfolding lows
low-long b = length-map b (λ r. r.0)

high-long : (b : Bounds) → length (highs b) ≡ length b
unfolding highs
high-long b = length-map b (λ r. r.1)

low-within : (b : Bounds) → IsFilled b → IsWithin b (lows b)
low-within b f = record { long = low-long b; each = λ j j-in. let le = f.each j j-in in rw (low-at b j j-in) (record { least = omega (arith, ints); greatest = le }) }

high-within : (b : Bounds) → IsFilled b → IsWithin b (highs b)
high-within b f = record { long = high-long b; each = λ j j-in. let le = f.each j j-in in rw (high-at b j j-in) (record { least = le; greatest = omega (arith, ints) }) }

-- a box whose points all lie in another ends within it
pub under-from : (root b : Bounds) → IsFilled b → ((x : List ℤ) → IsWithin b x → IsWithin root x) → IsUnder root b
under-from root b f h =
    let low = h (lows b) (low-within b f) in
    let high = h (highs b) (high-within b f) in
    let low-len = low-long b in
    let low-root = low.long in
    let long : length b ≡ length root = omega (arith, low-len, low-root) in
    record {
      long = long;
      each = λ j j-in.
          let j-b : j < length b = omega (arith, j-in, long) in
          let l = rw (low-at b j j-b) at (low.each j j-in) in
          let g = rw (high-at b j j-b) at (high.each j j-in) in
          record { lower = l.least; upper = g.greatest };
    }

-- ---- how many points

natural-positive : (z : ℤ) → 0 < natural z → pos 0 <ℤ z
natural-positive (pos n) h = omega (arith, ints, h)
natural-positive (negsuc n) h = absurd (omega (arith, h))

positive-natural : (z : ℤ) → pos 0 <ℤ z → 0 < natural z
positive-natural (pos n) h = omega (arith, ints, h)
positive-natural (negsuc n) h = absurd (omega (arith, ints, h))

positive-factor : (a b : ℕ) → 0 < a * b → 0 < a
positive-factor zero b h = let none = zero-mul b in absurd (omega (arith, h, none))
positive-factor (suc a) b h = omega arith

positive-rest : (a b : ℕ) → 0 < a * b → 0 < b
positive-rest a zero h = absurd (omega (arith, h))
positive-rest a (suc b) h = omega arith

positive-product : (a b : ℕ) → 0 < a → 0 < b → 0 < a * b
positive-product zero b h k = absurd (omega (arith, h))
positive-product (suc a) zero h k = absurd (omega (arith, k))
positive-product (suc a) (suc b) h k = grind arith

wide-filled : (r : ℤ × ℤ) → 0 < width_of r → r.0 ≤ℤ r.1
wide-filled r h = let p = natural-positive ((r.1 +ℤ pos 1) -ℤ r.0) h in omega (arith, ints, p)

filled-wide : (r : ℤ × ℤ) → r.0 ≤ℤ r.1 → 0 < width_of r
filled-wide r h = positive-natural ((r.1 +ℤ pos 1) -ℤ r.0) (omega (arith, ints, h))

filled-each : (b : Bounds) → 0 < point_count b → (j : ℕ) → j < length b → (range_at b j).0 ≤ℤ (range_at b j).1
filled-each [] h j j-in = absurd (omega (arith, j-in))
filled-each (r ∷ rs) h zero j-in = wide-filled r (positive-factor (width_of r) (point_count rs) h)
filled-each (r ∷ rs) h (suc j) j-in = filled-each rs (positive-rest (width_of r) (point_count rs) h) j (omega (arith, j-in))

pub filled-from : (b : Bounds) → 0 < point_count b → IsFilled b
filled-from b h = record { each = filled-each b h }

counted-each : (b : Bounds) → ((j : ℕ) → j < length b → (range_at b j).0 ≤ℤ (range_at b j).1) → 0 < point_count b
counted-each [] h = omega arith
counted-each (r ∷ rs) h = positive-product (width_of r) (point_count rs) (filled-wide r (h 0 (omega arith))) (counted-each rs (λ j j-in. h (suc j) (omega (arith, j-in))))

pub counted-from : (b : Bounds) → IsFilled b → 0 < point_count b
counted-from b h = counted-each b h.each

-- ---- a box without a reason isn't empty

not-crossed : (a b : ℤ) (t : Bool) → int_le a b ≡ t → (not t ≡ true → ⊥) → t ≡ true
not-crossed a b true e h = refl
not-crossed a b false e h = absurd (h refl)

pub unreasoned-filled : (m : ModelParts) (b : Bounds) → IsUnreasoned m b → IsFilled b
unreasoned-filled m b h = record {
  each = λ j j-in.
      let r = range_at b j in
      let le = not-crossed r.0 r.1 (int_le r.0 r.1) refl (λ crossed. h.each (Empty j) (record { known = j-in; crossed = crossed })) in
      omega (arith, ints, le);
}

-- ---- a box of one point

pub single-from : (b : Bounds) → IsFilled b → ((j : ℕ) → ¬ CanSplit b j (range_at b j).0) → AreSingle b
single-from b f none = record {
  each = λ j j-in.
      let r = range_at b j in
      let le = f.each j j-in in
      by_lt_z r.0 r.1
      (λ less. absurd (none j (record { known = j-in; least = omega (arith, ints); greatest = less })))
      (λ more. omega (arith, ints, le, more));
}

one-wide : (r : ℤ × ℤ) → r.0 ≡ r.1 → width_of r ≡ 1
one-wide r h = let e : ((r.1 +ℤ pos 1) -ℤ r.0) ≡ pos 1 = omega (arith, ints, h) in ap natural e

one-product : (a b : ℕ) → a ≡ 1 → b ≡ 1 → a * b ≡ 1
one-product a b h k = rw (h, k) refl

one-each : (b : Bounds) → ((j : ℕ) → j < length b → (range_at b j).0 ≡ (range_at b j).1) → point_count b ≡ 1
one-each [] h = refl
one-each (r ∷ rs) h = one-product (width_of r) (point_count rs) (one-wide r (h 0 (omega arith))) (one-each rs (λ j j-in. h (suc j) (omega (arith, j-in))))

pub one-point : (b : Bounds) → AreSingle b → point_count b ≡ 1
one-point b h = one-each b h.each

same-range : (r : ℤ × ℤ) (v : ℤ) → r.0 ≤ℤ v → v ≤ℤ r.1 → r.0 ≡ r.1 → r ≡ (v, v)
same-range r v low high one =
    let a : r.0 ≡ v = omega (arith, ints, low, high, one) in
    let b : r.1 ≡ v = omega (arith, ints, low, high, one) in
    let p : r ≡ (r.0, v) = ap {B = ℤ × ℤ} (λ w. (r.0, w)) b in
    p ∙ ap {B = ℤ × ℤ} (λ w. (w, v)) a

point-each : (b : Bounds) (x : List ℤ) → length x ≡ length b → ((j : ℕ) → j < length b → IsBetween (range_at b j) (coordinate x j)) → ((j : ℕ) → j < length b → (range_at b j).0 ≡ (range_at b j).1) → b ≡ point_box x
point-each [] [] long within single = refl
point-each [] (v ∷ vs) long within single = absurd (omega (arith, long))
point-each (r ∷ rs) [] long within single = absurd (omega (arith, long))
point-each (r ∷ rs) (v ∷ vs) long within single =
    let here = within 0 (omega arith) in
    ap₂ (λ q qs. q ∷ qs) (same-range r v here.least here.greatest (single 0 (omega arith)))
    (point-each rs vs (omega (arith, long)) (λ j j-in. within (suc j) (omega (arith, j-in))) (λ j j-in. single (suc j) (omega (arith, j-in))))

pub point-is : (b : Bounds) (x : List ℤ) → IsPointBox b x → b ≡ point_box x
point-is b x h = point-each b x h.within.long h.within.each h.single

-- ---- ranges from two lists

ranges-long : (ls us : List ℤ) → length us ≡ length ls → length (ranges ls us) ≡ length ls
ranges-long [] us h = refl
ranges-long (l ∷ ls) [] h = absurd (omega (arith, h))
ranges-long (l ∷ ls) (u ∷ us) h = let rest = ranges-long ls us (omega (arith, h)) in omega (arith, rest)

range-low : (ls us : List ℤ) (j : ℕ) → length us ≡ length ls → (range_at (ranges ls us) j).0 ≡ coordinate ls j
range-low [] us j h = refl
range-low (l ∷ ls) [] j h = absurd (omega (arith, h))
range-low (l ∷ ls) (u ∷ us) zero h = refl
range-low (l ∷ ls) (u ∷ us) (suc j) h = range-low ls us j (omega (arith, h))

pub lower-alone : (ls us : List ℤ) → length us ≡ length ls → AreSingle (ranges ls us) → IsPointBox (ranges ls us) ls
lower-alone ls us long h =
    record {
      within = record {
        long = sym (ranges-long ls us long);
        each = λ j j-in.
            let one = h.each j j-in in
            let low = range-low ls us j long in
            record { least = omega (arith, ints, low); greatest = omega (arith, ints, low, one) };
      };
      single = h.each;
    }

-- ---- a box that can be split

pub some-points : (b : Bounds) (low high : ℕ) → point_count b ≡ low + high → (0 < low) × (0 < high) → 2 ≤ point_count b
some-points b low high sum parts =
    let left = parts.0 in
    let right = parts.1 in
    omega (arith, sum, left, right)
