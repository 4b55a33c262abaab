-- A filter's width over a box within another, and at a point.
use Rattle.std.proofs.Common.{◌≡◌, ℕ, ◌+◌, ◌*◌, ◌^◌, ◌<◌, ◌≤◌, max, List, [], ◌∷◌, map, length, All, ℤ, pos, ◌≤ℤ◌, ap, sym, ◌∙◌, inl, inr, arith, get_or}
use Rattle.std.proofs.Math.Nat.{mul-le-mul_left}
use Rattle.std.proofs.lemmas.Bool.{cases_lt}
use Rattle.std.proofs.lemmas.Int.{ints}
use Rattle.std.proofs.lemmas.List.{get_or_past, length-map}
use Rattle.std.specs.Int.RustNames.{unsigned_abs}
use Rattle.sp_model.specs.declared.parts.ModelParts.{ModelParts}
use Rattle.sp_model.specs.Boxes.{Bounds, range_at, coordinate, IsWithin}
use Rattle.sp_model.specs.Models.{root_of}
use Rattle.sp_model.specs.Sums.{Term, reach}
use Rattle.sp_filter.specs.declared.kinds.Filter.{Filter}
use Rattle.sp_filter.specs.declared.kinds.Filter.TheVariants.{Range, Diversity}
use Rattle.sp_filter.specs.Filters.{Weighted, count_total, multiple_width, distance_width, terms_width, filter_width, AreKnown, IsNarrow, Fits, LiesIn, box_at}
use Rattle.sp_filter.proofs.TermLemmas.{at_box}

less-reach : (l u m n : ℤ) → l ≤ℤ m → m ≤ℤ n → n ≤ℤ u → reach (m, n) ≤ reach (l, u)
less-reach l u m n p q r = omega (arith, ints)

-- ranges within others reach no farther, also past the last variable
reach-within : (outer inner : Bounds) (j : ℕ) → LiesIn outer inner → reach (range_at inner j) ≤ reach (range_at outer j)
reach-within outer inner j h = elim (cases_lt j (length outer)) [
  | inl l ↦ (let e = h.each j l in less-reach (range_at outer j).0 (range_at outer j).1 (range_at inner j).0 (range_at inner j).1 e.0 e.1 e.2)
  | inr g ↦ (let long : length inner ≤ j = omega (arith, h.long) in rw (get_or_past inner j (pos 0, pos 0) long, get_or_past outer j (pos 0, pos 0) g) (omega arith))
]

count-le : {X : Type 0} (g h : X → ℕ) → ((t : X) → g t ≤ h t) → (ts : List X) → count_total g ts ≤ count_total h ts
count-le g h p [] = omega arith
count-le g h p (t ∷ ts) = omega (arith, p t, count-le g h p ts)

width-within : (f : Filter) (outer inner : Bounds) → LiesIn outer inner → terms_width f inner ≤ terms_width f outer
width-within (Range terms lo hi scale) outer inner h =
    count-le (multiple_width inner) (multiple_width outer) (λ (t : Term). mul-le-mul_left (unsigned_abs t.1) (reach-within outer inner t.0 h)) terms
width-within (Diversity terms lo hi scale) outer inner h =
    count-le (distance_width inner) (distance_width outer)
    (λ (t : Weighted). mul-le-mul_left (unsigned_abs t.1) (let r = reach-within outer inner t.0 h in let s : reach (range_at inner t.0) + unsigned_abs t.2 ≤ reach (range_at outer t.0) + unsigned_abs t.2 = omega (arith, r) in s)) terms

known-as : (f : Filter) (m n : ℕ) → m ≡ n → AreKnown f m → AreKnown f n
known-as f m n e h = rw (sym e) h

pub narrow_within : (f : Filter) (outer inner : Bounds) → IsNarrow f outer → LiesIn outer inner → IsNarrow f inner
narrow_within f outer inner n h = record {
  known = known-as f (length outer) (length inner) (sym h.long) n.known;
  narrow = omega (arith, n.narrow, width-within f outer inner h);
}

-- the box of a point of a box lies within it
box_at_lies : (b : Bounds) (x : List ℤ) → IsWithin b x → LiesIn b (box_at x)
box_at_lies b x w = record {
  long = length-map x (λ (v : ℤ). (v, v)) ∙ w.long;
  each = λ j l. rw (at_box x j) ((w.each j l).least, omega (arith, ints), (w.each j l).greatest);
}

pub narrow_at : (f : Filter) (b : Bounds) (x : List ℤ) → IsNarrow f b → IsWithin b x → IsNarrow f (box_at x)
narrow_at f b x n w = narrow_within f b (box_at x) n (box_at_lies b x w)

pub fitting : (m : ModelParts) (f : Filter) → length (root_of m) ≡ length m.lower → Fits m f → IsNarrow f (root_of m)
fitting m f e h = record { known = known-as f (length m.lower) (length (root_of m)) (sym e) h.known; narrow = h.narrow }
