-- How a sum goes on by the addends of a tail.
use Rattle.std.proofs.Common.{◌≡◌, ℕ, ◌*◌, ◌<◌, ◌≤◌, Bool, true, false, ◌&&◌, cond, ◌⊎◌, inl, inr, List, [], ◌∷◌, Option, None, Some, ℤ, pos, neg_ℤ, ◌+ℤ◌, ◌-ℤ◌, ◌≤ℤ◌, ◌<ℤ◌, int_le, fold, leb, refl, sym, ap, ◌∙◌, arith}
use Rattle.std.specs.Int.{int_min, int_max}
use Rattle.std.specs.Int.RustNames.{unsigned_abs}
use Rattle.std.proofs.lemmas.Bool.{le-leb, lt-leb, cases_lt}
use Rattle.std.proofs.lemmas.Int.{ints, clamps}
use Rattle.sp_model.specs.declared.tails.Tail.{Tail}
use Rattle.sp_model.specs.InnerRounds.{joined, IsSpan, IsSpanOrNone, IsTail}
use Rattle.sp_model.specs.Limits.{greatest_width}
use Rattle.sp_model.specs.Rounds.{if_small, plus}
use Rattle.sp_model.specs.Sums.{side_width}

-- ---- small numbers

pub small_is : (z : ℤ) → unsigned_abs z ≤ greatest_width → if_small z ≡ Some z
small_is z h = rw (le-leb (unsigned_abs z) greatest_width h)

pub great_is : (z : ℤ) → greatest_width < unsigned_abs z → if_small z ≡ None
great_is z h = rw (lt-leb (unsigned_abs z) greatest_width h)

pub none_stays : (vs : List (Option ℤ)) → fold plus None vs ≡ None
none_stays [] = refl
none_stays (v ∷ vs) = none_stays vs

-- ---- a sum and a tail

pub le_test : (a b : ℤ) → a ≤ℤ b → int_le a b ≡ true
le_test a b h = grind (arith, ints)

gt_test : (a b : ℤ) → b <ℤ a → int_le a b ≡ false
gt_test a b h = grind (arith, ints)

-- the sum stays small on the way
pub record Fits (s : ℤ) (t : Tail) : Type 0 where
  pub high : (s +ℤ t.high) ≤ℤ pos greatest_width
  pub low : neg_ℤ (pos greatest_width) ≤ℤ (s +ℤ t.low)

abbrev FitsNot : ℤ → Tail → Type 0
FitsNot s t = (pos greatest_width <ℤ (s +ℤ t.high)) ⊎ ((s +ℤ t.low) <ℤ neg_ℤ (pos greatest_width))

pub joins : (s : ℤ) (t : Tail) → Fits s t → joined (Some s) (Some t) ≡ Some (s +ℤ t.total)
joins s t f = rw (le_test (s +ℤ t.high) (pos greatest_width) f.high, le_test (neg_ℤ (pos greatest_width)) (s +ℤ t.low) f.low)

pub joins_high : (s : ℤ) (t : Tail) → pos greatest_width <ℤ (s +ℤ t.high) → joined (Some s) (Some t) ≡ None
joins_high s t h = rw (gt_test (s +ℤ t.high) (pos greatest_width) h)

pub joins_low : (s : ℤ) (t : Tail) → (s +ℤ t.low) <ℤ neg_ℤ (pos greatest_width) → joined (Some s) (Some t) ≡ None
joins_low s t h = low_case (int_le (s +ℤ t.high) (pos greatest_width)) (gt_test (neg_ℤ (pos greatest_width)) (s +ℤ t.low) h)
  where
    low_case : (a : Bool) {b : Bool} → b ≡ false → cond (a && b) (Some (s +ℤ t.total)) None ≡ None
    low_case true e = rw e
    low_case false e = refl

joins_not : (s : ℤ) (t : Tail) → FitsNot s t → joined (Some s) (Some t) ≡ None
joins_not s t (inl h) = joins_high s t h
joins_not s t (inr h) = joins_low s t h

either_le : (a b : ℤ) → (a ≤ℤ b) ⊎ (b <ℤ a)
either_le a b = le_case (int_le a b) refl
  where
    le_case : (c : Bool) → int_le a b ≡ c → (a ≤ℤ b) ⊎ (b <ℤ a)
    le_case true e = inl (grind (arith, ints))
    le_case false e = inr (grind (arith, ints))

fits_or_not : (s : ℤ) (t : Tail) → Fits s t ⊎ FitsNot s t
fits_or_not s t = elim (either_le (s +ℤ t.high) (pos greatest_width)) [
  | inl high ↦ elim (either_le (neg_ℤ (pos greatest_width)) (s +ℤ t.low)) [
    | inl low ↦ inl record { high = high; low = low }
    | inr low ↦ inr (inr low)
  ]
  | inr high ↦ inr (inl high)
]

-- ---- a further addend in front

-- the tail u is the tail t with the addend v in front
pub record IsLonger (v : ℤ) (t u : Tail) : Type 0 where
  pub total : u.total ≡ v +ℤ t.total
  pub low : u.low ≡ int_min (v +ℤ t.low) (pos 0)
  pub high : u.high ≡ int_max (v +ℤ t.high) (pos 0)

shorter_fits : (s v : ℤ) (t u : Tail) → IsLonger v t u → Fits s u → Fits (s +ℤ v) t
shorter_fits s v t u l f = record {
  high = omega (arith, ints, clamps, l.high, f.high);
  low = omega (arith, ints, clamps, l.low, f.low);
}

longer_fits : (s v : ℤ) (t u : Tail) → unsigned_abs s ≤ greatest_width → IsLonger v t u → Fits (s +ℤ v) t → Fits s u
longer_fits s v t u small l f = record {
  high = omega (arith, ints, clamps, l.high, f.high);
  low = omega (arith, ints, clamps, l.low, f.low);
}

next_small : (s v : ℤ) (t u : Tail) → IsSpan t → IsLonger v t u → Fits s u → unsigned_abs (s +ℤ v) ≤ greatest_width
next_small s v t u span l f =
    let g = shorter_fits s v t u l f in
    omega (arith, ints, g.high, g.low, span.low, span.high)

pub longer_span : (v : ℤ) (t u : Tail) → IsSpan t → IsLonger v t u → (u.high -ℤ u.low) ≤ℤ pos (2 * greatest_width) → IsSpan u
longer_span v t u span l near = record {
  low = omega (arith, ints, clamps, l.low);
  high = omega (arith, ints, clamps, l.high);
  above = omega (arith, ints, clamps, l.low, l.total, span.above);
  below = omega (arith, ints, clamps, l.high, l.total, span.below);
  near = near;
}

same_join : (s v : ℤ) (t u : Tail) → unsigned_abs s ≤ greatest_width → IsLonger v t u → joined (Some (s +ℤ v)) (Some t) ≡ joined (Some s) (Some u)
same_join s v t u small l = elim (fits_or_not s u) [
  | inl f ↦ joins (s +ℤ v) t (shorter_fits s v t u l f) ∙ ap Some (omega (arith, ints, l.total)) ∙ sym (joins s u f)
  | inr n ↦ elim (fits_or_not (s +ℤ v) t) [
    | inl g ↦ joins (s +ℤ v) t g ∙ ap Some (omega (arith, ints, l.total)) ∙ sym (joins s u (longer_fits s v t u small l g))
    | inr m ↦ joins_not (s +ℤ v) t m ∙ sym (joins_not s u n)
  ]
]

-- the next sum is small, or no sum goes on
stops : (s v : ℤ) (t u : Tail) → IsSpan t → IsLonger v t u → greatest_width < unsigned_abs (s +ℤ v) → joined (Some s) (Some u) ≡ None
stops s v t u span l great = elim (fits_or_not s u) [
  | inl f ↦ absurd (omega (arith, next_small s v t u span l f))
  | inr n ↦ joins_not s u n
]

pub longer_tail : (v : ℤ) (t u : Tail) (vs : List (Option ℤ)) → IsLonger v t u → (u.high -ℤ u.low) ≤ℤ pos (2 * greatest_width) → IsSpan t → IsTail vs (Some t) → IsTail (Some v ∷ vs) (Some u)
longer_tail v t u vs l near span h = record {
  span = longer_span v t u span l near;
  goes_on = λ s small. elim (cases_lt greatest_width (unsigned_abs (s +ℤ v))) [
    | inl great ↦ rw (great_is (s +ℤ v) great, none_stays vs) (sym (stops s v t u span l great))
    | inr next ↦ rw (small_is (s +ℤ v) next) (h.goes_on (s +ℤ v) next ∙ same_join s v t u small l)
  ];
}

-- past the distance no sum goes on
far : (s v : ℤ) (t u : Tail) → unsigned_abs s ≤ greatest_width → IsLonger v t u → pos (2 * greatest_width) <ℤ (u.high -ℤ u.low) → joined (Some (s +ℤ v)) (Some t) ≡ None
far s v t u small l apart = elim (fits_or_not (s +ℤ v) t) [
  | inl g ↦ absurd (let f = longer_fits s v t u small l g in omega (arith, ints, f.high, f.low))
  | inr m ↦ joins_not (s +ℤ v) t m
]

pub no_tail : (v : ℤ) (t u : Tail) (vs : List (Option ℤ)) → IsLonger v t u → pos (2 * greatest_width) <ℤ (u.high -ℤ u.low) → IsTail vs (Some t) → IsTail (Some v ∷ vs) None
no_tail v t u vs l apart h = record {
  span = tt;
  goes_on = λ s small. elim (cases_lt greatest_width (unsigned_abs (s +ℤ v))) [
    | inl great ↦ rw (great_is (s +ℤ v) great) (none_stays vs)
    | inr next ↦ rw (small_is (s +ℤ v) next) (h.goes_on (s +ℤ v) next ∙ far s v t u small l apart)
  ];
}

pub still_no_tail : (v : Option ℤ) (vs : List (Option ℤ)) → IsTail vs None → IsTail (v ∷ vs) None
still_no_tail None vs h = record { span = tt; goes_on = λ s small. none_stays vs }
still_no_tail (Some v) vs h = record {
  span = tt;
  goes_on = λ s small. elim (cases_lt greatest_width (unsigned_abs (s +ℤ v))) [
    | inl great ↦ rw (great_is (s +ℤ v) great) (none_stays vs)
    | inr next ↦ rw (small_is (s +ℤ v) next) (h.goes_on (s +ℤ v) next)
  ];
}

pub missing_no_tail : (vs : List (Option ℤ)) → IsTail (None ∷ vs) None
missing_no_tail vs = record { span = tt; goes_on = λ s small. none_stays vs }

-- no addend
pub empty_tail : (t : Tail) → t.total ≡ pos 0 → t.low ≡ pos 0 → t.high ≡ pos 0 → IsTail [] (Some t)
empty_tail t total low high = record {
  span = record {
    low = omega (arith, ints);
    high = omega (arith, ints);
    above = omega (arith, ints);
    below = omega (arith, ints);
    near = omega (arith, ints);
  };
  goes_on = λ s small.
      sym (joins s t record { high = omega (arith, ints); low = omega (arith, ints) } ∙ ap Some (omega (arith, ints)));
}

-- a sum so far and a tail, also where there is no sum
pub tail_goes_on : (s : Option ℤ) (vs : List (Option ℤ)) (tail : Option Tail) → IsTail vs tail → side_width s ≤ greatest_width → fold plus s vs ≡ joined s tail
tail_goes_on None vs tail h small = none_stays vs
tail_goes_on (Some s) vs tail h small = h.goes_on s small
