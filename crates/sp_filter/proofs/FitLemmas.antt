-- A filter that a narrow draft becomes fits the model.
use Rattle.std.proofs.Common.{◌≡◌, ◌≢◌, ℕ, zero, suc, ◌+◌, ◌-◌, ◌*◌, ◌^◌, ◌<◌, ◌≤◌, max, Bool, true, false, cond, ◌==◌, nat_eq, if◌then◌else◌, refl, List, [], ◌∷◌, map, filter, length, get_or, All, ℤ, pos, negsuc, ◌+ℤ◌, ◌*ℤ◌, ◌≤ℤ◌, Option, None, Some, ap, ap₂, sym, ◌∙◌, inl, inr, ◌⊎◌, arith}
use Rattle.std.proofs.Math.Nat.{mul-le-mul_left, mul-le-mul_right}
use Rattle.std.proofs.lemmas.Bool.{cases_Bool}
use Rattle.std.proofs.lemmas.Bool.Decides.{not_from_Decides, Decides-eqb}
use Rattle.std.proofs.lemmas.Int.{ints, unsigned_abs-mul}
use Rattle.std.proofs.lemmas.List.Elements.{All-filter, All-map, All-head, All-tail, All-nil, All-cons, All-weaker}
use Rattle.std.specs.Int.RustNames.{unsigned_abs}
use Rattle.std.specs.List.{range_with_len}
use Rattle.sp_decimal.specs.DecimalFraction.{DecimalFraction}
use Rattle.sp_model.specs.declared.parts.ModelParts.{ModelParts}
use Rattle.sp_model.specs.Boxes.{Bounds, range_at}
use Rattle.sp_model.specs.Models.{is_nonzero, root_of}
use Rattle.sp_model.specs.Sums.{Term, reach, side_width}
use Rattle.sp_scaling.specs.Scaling.{WrittenTerm, greatest_width, units, scaled, size_of, coefficient, past, collected}
use Rattle.sp_filter.specs.declared.drafting.FilterDraft.{FilterDraft}
use Rattle.sp_filter.specs.declared.drafting.FilterDraft.TheVariants.{Range as RangeDraft, Diversity as DiversityDraft}
use Rattle.sp_filter.specs.Filters.{Weighted, count_total, multiple_width, distance_width, filter_width, AreKnown, AreWeightsLawful, Fits}
use Rattle.sp_filter.specs.InnerLowering.{IsSmall}
use Rattle.sp_filter.specs.Lowering.{WrittenWeighted, AreDraftKnown, AreDraftWeightsLawful, places_of, weighted_units, scaled_to, written, combined, lowered}

-- ---- the width of collected terms

count-filter : {X : Type 0} (g : X → ℕ) (p : X → Bool) (xs : List X) → count_total g (filter p xs) ≤ count_total g xs
count-filter g p [] = omega arith
count-filter g p (x ∷ xs) =
    let h = count-filter g p xs in
    elim (cases_Bool (p x)) [
      | inl t ↦ rw t (omega (arith, h))
      | inr f ↦ rw f (omega (arith, h))
    ]

-- what a term gives a variable: its coefficient, if it is the term's
abbrev own : Term → ℕ → ℤ
own t j = if t.0 == j then t.1 else pos 0

abbrev widths : Bounds → (ℕ → ℤ) → List ℕ → ℕ
widths b f js = count_total (multiple_width b) (map (λ j. (j, f j)) js)

product-add : (y z : ℤ) (n : ℕ) → unsigned_abs (y +ℤ z) * n ≤ unsigned_abs y * n + unsigned_abs z * n
product-add y z n =
    let h : unsigned_abs (y +ℤ z) ≤ unsigned_abs y + unsigned_abs z = omega (arith, ints) in
    omega (arith, mul-le-mul_right n h)

widths-add : (b : Bounds) (f g : ℕ → ℤ) (js : List ℕ) → widths b (λ j. f j +ℤ g j) js ≤ widths b f js + widths b g js
widths-add b f g [] = omega arith
widths-add b f g (j ∷ js) = omega (arith, widths-add b f g js, product-add (f j) (g j) (reach (range_at b j)))

nothing : (n : ℕ) → unsigned_abs (pos 0) * n ≡ 0
nothing n = omega (arith, ints)

widths-none : (b : Bounds) (js : List ℕ) → widths b (λ j. pos 0) js ≡ 0
widths-none b [] = refl
widths-none b (j ∷ js) = omega (arith, widths-none b js, nothing (reach (range_at b j)))

unlike : (i j : ℕ) → i ≢ j → (i == j) ≡ false
unlike i j h = elim (cases_Bool (i == j)) [
  | inl t ↦ absurd (h ((Decides-eqb i j).0 t))
  | inr f ↦ f
]

alike : (i j : ℕ) → (i == j) ≡ true → i ≡ j
alike i j t = (Decides-eqb i j).0 t

own-other : (t : Term) (j : ℕ) → t.0 ≢ j → own t j ≡ pos 0
own-other t j h = rw (unlike t.0 j h) refl

own-width-other : (b : Bounds) (t : Term) (j : ℕ) → t.0 ≢ j → multiple_width b (j, own t j) ≡ 0
own-width-other b t j h = rw (own-other t j h) (nothing (reach (range_at b j)))

-- past its variable a term gives nothing
own-behind : (b : Bounds) (t : Term) (a n : ℕ) → t.0 < a → widths b (own t) (range_with_len a n) ≡ 0
own-behind b t a zero h = refl
own-behind b t a (suc n) h =
    let first : multiple_width b (a, own t a) ≡ 0 = own-width-other b t a (omega arith) in
    let rest : widths b (own t) (range_with_len (a + 1) n) ≡ 0 = own-behind b t (a + 1) n (omega arith) in
    omega (arith, first, rest)

own-at : (b : Bounds) (t : Term) (a : ℕ) → (t.0 == a) ≡ true → multiple_width b (a, own t a) ≡ multiple_width b t
own-at b t a e = rw e (ap (λ j. unsigned_abs t.1 * reach (range_at b j)) (sym (alike t.0 a e)))

-- a term gives its width once
own-once : (b : Bounds) (t : Term) (a n : ℕ) → widths b (own t) (range_with_len a n) ≤ multiple_width b t
own-once b t a zero = omega arith
own-once b t a (suc n) =
    elim (cases_Bool (t.0 == a)) [
      | inl e ↦ (
          let first : multiple_width b (a, own t a) ≡ multiple_width b t = own-at b t a e in
          let same : t.0 ≡ a = alike t.0 a e in
          let rest : widths b (own t) (range_with_len (a + 1) n) ≡ 0 = own-behind b t (a + 1) n (omega arith) in
          omega (arith, first, rest)
          )
      | inr e ↦ (
          let apart : t.0 ≢ a = not_from_Decides (t.0 == a) (Decides-eqb t.0 a) e in
          let first : multiple_width b (a, own t a) ≡ 0 = own-width-other b t a apart in
          let rest : widths b (own t) (range_with_len (a + 1) n) ≤ multiple_width b t = own-once b t (a + 1) n in
          omega (arith, first, rest)
          )
    ]

coefficients-width : (b : Bounds) (ts : List Term) (a n : ℕ) → widths b (coefficient ts) (range_with_len a n) ≤ count_total (multiple_width b) ts
coefficients-width b [] a n = omega (arith, widths-none b (range_with_len a n))
coefficients-width b (t ∷ ts) a n =
    let both : widths b (λ j. own t j +ℤ coefficient ts j) (range_with_len a n) ≤ widths b (own t) (range_with_len a n) + widths b (coefficient ts) (range_with_len a n) = widths-add b (own t) (coefficient ts) (range_with_len a n) in
    omega (arith, both, own-once b t a n, coefficients-width b ts a n)

pub collected-width : (b : Bounds) (ts : List Term) → count_total (multiple_width b) (collected ts) ≤ count_total (multiple_width b) ts
collected-width b ts =
    let p = count-filter (multiple_width b) (λ (t : Term). is_nonzero t.1) (map (λ j. (j, coefficient ts j)) (range_with_len 0 (past ts))) in
    let q = coefficients-width b ts 0 (past ts) in
    omega (arith, p, q)

-- ---- the variables of collected terms

past-known : (ts : List Term) (n : ℕ) → All (λ (t : Term). t.0 < n) ts → past ts ≤ n
past-known [] n h = omega arith
past-known (t ∷ ts) n h =
    let first : t.0 < n = All-head (λ (u : Term). u.0 < n) t ts h in
    let rest : past ts ≤ n = past-known ts n (All-tail (λ (u : Term). u.0 < n) t ts h) in
    omega (arith, first, rest)

range-below : (a n m : ℕ) → a + n ≤ m → All (λ j. j < m) (range_with_len a n)
range-below a zero m h = All-nil (λ j. j < m)
range-below a (suc n) m h = All-cons (λ j. j < m) a (range_with_len (a + 1) n) (omega arith) (range-below (a + 1) n m (omega arith))

collected-known : (ts : List Term) (n : ℕ) → All (λ (t : Term). t.0 < n) ts → All (λ (t : Term). t.0 < n) (collected ts)
collected-known ts n h =
    All-filter (λ (t : Term). is_nonzero t.1) (λ (t : Term). t.0 < n) (map (λ j. (j, coefficient ts j)) (range_with_len 0 (past ts)))
    (All-map (λ (t : Term). t.0 < n) (λ j. (j, coefficient ts j)) (range_with_len 0 (past ts))
    (range-below 0 (past ts) n (omega (arith, past-known ts n h))))

scaled-known : (places : ℕ) (ts : List WrittenTerm) (n : ℕ) → All (λ (t : WrittenTerm). t.0 < n) ts → All (λ (t : Term). t.0 < n) (scaled places ts)
scaled-known places ts n h = All-map (λ (t : Term). t.0 < n) (λ (t : WrittenTerm). (t.0, units places t.1)) ts h

weighted-known : (places : ℕ) (ts : List WrittenWeighted) (n : ℕ) → All (λ (t : WrittenWeighted). t.0 < n) ts → All (λ (t : Weighted). t.0 < n) (weighted_units places ts)
weighted-known places ts n h = All-map (λ (t : Weighted). t.0 < n) (λ (t : WrittenWeighted). (t.0, units places t.1, t.2)) ts h

-- ---- weights

units-sign : (p : ℤ) (n : ℕ) → pos 0 ≤ℤ p → pos 0 ≤ℤ (p *ℤ pos n)
units-sign (pos m) n h = omega (arith, ints)
units-sign (negsuc m) n h = absurd (omega (arith, ints))

weights-lawful : (places : ℕ) (ts : List WrittenWeighted) → All (λ (t : WrittenWeighted). pos 0 ≤ℤ t.1.p) ts → All (λ (t : Weighted). pos 0 ≤ℤ t.1) (weighted_units places ts)
weights-lawful places ts h =
    All-map (λ (t : Weighted). pos 0 ≤ℤ t.1) (λ (t : WrittenWeighted). (t.0, units places t.1, t.2)) ts
    (All-weaker (λ (t : WrittenWeighted). pos 0 ≤ℤ t.1.p) (λ (t : WrittenWeighted). pos 0 ≤ℤ units places t.1) (λ t k. units-sign t.1.p (10 ^ (places - t.1.s)) k) ts h)

-- ---- what a draft becomes

pub draft_fits : (m : ModelParts) (d : FilterDraft) → AreDraftKnown d (length m.lower) → AreDraftWeightsLawful d → filter_width (written d) (root_of m) ≤ 10 ^ 36 → Fits m (lowered d)
draft_fits m (RangeDraft terms lo hi) known weights narrow =
    let places = places_of (RangeDraft terms lo hi) in
    record {
      known = collected-known (scaled places terms) (length m.lower) (scaled-known places terms (length m.lower) known);
      weights = tt;
      narrow = omega (arith, narrow, collected-width (root_of m) (scaled places terms));
    }
draft_fits m (DiversityDraft terms lo hi) known weights narrow =
    let places = places_of (DiversityDraft terms lo hi) in
    record {
      known = weighted-known places terms (length m.lower) known;
      weights = weights-lawful places terms weights;
      narrow = narrow;
    }

at-least-once : (a : ℤ) (n : ℕ) → 0 < n → unsigned_abs a ≤ unsigned_abs a * n
at-least-once a zero h = elim h [ ]
at-least-once a (suc n) h = omega (arith, mul-le-mul_left (unsigned_abs a) h)

size-le : (b : Bounds) (ts : List Term) → size_of ts ≤ count_total (multiple_width b) ts
size-le b [] = omega arith
size-le b (t ∷ ts) = omega (arith, size-le b ts, at-least-once t.1 (reach (range_at b t.0)) (omega arith))

weight-le : (b : Bounds) (ts : List Weighted) → count_total (λ (t : Weighted). unsigned_abs t.1) ts ≤ count_total (distance_width b) ts
weight-le b [] = omega arith
weight-le b (t ∷ ts) = omega (arith, weight-le b ts, at-least-once t.1 (reach (range_at b t.0) + unsigned_abs t.2) (omega arith))

pub draft_small : (b : Bounds) (d : FilterDraft) → filter_width (written d) b ≤ 10 ^ 36 → IsSmall (written d)
draft_small b (RangeDraft terms lo hi) narrow =
    record { factors = omega (arith, narrow, size-le b (scaled (places_of (RangeDraft terms lo hi)) terms)); least = omega (arith, narrow); most = omega (arith, narrow) }
draft_small b (DiversityDraft terms lo hi) narrow =
    record { factors = omega (arith, narrow, weight-le b (weighted_units (places_of (DiversityDraft terms lo hi)) terms)); least = omega (arith, narrow); most = omega (arith, narrow) }
