-- What is so of collected terms, and of negated ones.
use Rattle.std.proofs.Common.{◌≡◌, ◌≢◌, ℕ, zero, suc, ◌+◌, ◌-◌, ◌*◌, ◌<◌, ◌≤◌, Bool, true, false, ◌==◌, List, [], ◌∷◌, length, get_or, map, filter, refl, ap, ◌∙◌, sym, arith, inl, inr, All, AllPairs, IsTrue, ℤ, pos, negsuc, neg_ℤ, ◌+ℤ◌, ◌*ℤ◌}
use Rattle.std.specs.Prelude.{if◌then◌else◌, unsigned_abs}
use Rattle.std.specs.List.{range_with_len}
use Rattle.std.proofs.lemmas.Bool.{cases_Bool, eqb-true, eq-eqb}
use Rattle.std.proofs.lemmas.Int.{ints}
use Rattle.std.proofs.lemmas.List.Elements.{All-nil, All-cons, All-head, All-tail, All-weaker}
use Rattle.std.proofs.lemmas.List.Kept.{AllPairs-cons}
use Rattle.std.proofs.Math.Nat.{mul-le-mul_right}
use Rattle.sp_model.specs.Boxes.{Bounds, range_at, coordinate}
use Rattle.sp_model.specs.Models.{is_nonzero}
use Rattle.sp_model.specs.Rules.{AreTermsLawful}
use Rattle.sp_model.specs.Sums.{Term, reach, sum_at, width_over}
use Rattle.sp_scaling.specs.Scaling.{coefficient, past, collected, turned, turned_terms}
use Rattle.sp_scaling.proofs.MergeLemmas.{span, with_first, past-below, coefficient-other, other}

-- ---- the variables rise, are known, and none has the coefficient 0

nonzero_is : (v : ℤ) → is_nonzero v ≡ true → v ≢ pos 0
nonzero_is v h = λ e. grind (arith, ints)

-- all variables are from a on and below e
all_within : (a e n : ℕ) (ts : List Term) → a + n ≤ e → All (λ t. t.0 < e) (span a n ts)
all_within a e zero ts h = All-nil _
all_within a e (suc n) ts h =
    elim (cases_Bool (is_nonzero (coefficient ts a))) [
      | inl t ↦ rw t (All-cons (λ (u : Term). u.0 < e) (a, coefficient ts a) (span (a + 1) n ts) (omega arith) (all_within (a + 1) e n ts (omega arith)))
      | inr f ↦ rw f (all_within (a + 1) e n ts (omega arith))
    ]

all_from : (k a n : ℕ) (ts : List Term) → k ≤ a → All (λ t. k ≤ t.0) (span a n ts)
all_from k a zero ts h = All-nil _
all_from k a (suc n) ts h =
    elim (cases_Bool (is_nonzero (coefficient ts a))) [
      | inl t ↦ rw t (All-cons (λ (u : Term). k ≤ u.0) (a, coefficient ts a) (span (a + 1) n ts) h (all_from k (a + 1) n ts (omega arith)))
      | inr f ↦ rw f (all_from k (a + 1) n ts (omega arith))
    ]

all_rise : (a n : ℕ) (ts : List Term) → AllPairs (λ t u. t.0 < u.0) (span a n ts)
all_rise a zero ts = λ i j d l m. absurd (omega arith)
all_rise a (suc n) ts =
    elim (cases_Bool (is_nonzero (coefficient ts a))) [
      | inl t ↦ rw t (AllPairs-cons (λ (u v : Term). u.0 < v.0) (a, coefficient ts a) (span (a + 1) n ts)
          (All-weaker (λ (u : Term). a + 1 ≤ u.0) (λ u. a < u.0) (λ u h. omega arith) (span (a + 1) n ts) (all_from (a + 1) (a + 1) n ts (omega arith)))
          (all_rise (a + 1) n ts))
      | inr f ↦ rw f (all_rise (a + 1) n ts)
    ]

none_zero : (a n : ℕ) (ts : List Term) → All (λ t. t.1 ≢ pos 0) (span a n ts)
none_zero a zero ts = All-nil _
none_zero a (suc n) ts =
    elim (cases_Bool (is_nonzero (coefficient ts a))) [
      | inl t ↦ rw t (All-cons (λ (u : Term). u.1 ≢ pos 0) (a, coefficient ts a) (span (a + 1) n ts) (nonzero_is (coefficient ts a) t) (none_zero (a + 1) n ts))
      | inr f ↦ rw f (none_zero (a + 1) n ts)
    ]

pub collected-lawful : (count : ℕ) (ts : List Term) → All (λ t. t.0 < count) ts → AreTermsLawful count (collected ts)
collected-lawful count ts h =
    let below = past-below ts count h in
    record {
      known = all_within 0 count (past ts) ts (omega arith);
      rising = all_rise 0 (past ts) ts;
      nonzero = none_zero 0 (past ts) ts;
    }

-- ---- their width

-- what one variable adds to a width
abbrev share : Bounds → ℕ → Term → ℕ
share b j t = if t.0 == j then unsigned_abs t.1 * reach (range_at b j) else 0

shares : Bounds → ℕ → List Term → ℕ
shares b j [] = 0
shares b j (t ∷ ts) = share b j t + shares b j ts

abs_add : (v w : ℤ) → unsigned_abs (v +ℤ w) ≤ unsigned_abs v + unsigned_abs w
abs_add v w = omega (arith, ints)

share_is : (b : Bool) (v : ℤ) (n : ℕ) → unsigned_abs (if b then v else pos 0) * n ≡ (if b then unsigned_abs v * n else 0)
share_is true v n = refl
share_is false v n = omega arith

own_share : (b : Bounds) (j : ℕ) (ts : List Term) → unsigned_abs (coefficient ts j) * reach (range_at b j) ≤ shares b j ts
unfolding shares
own_share b j [] = omega arith
own_share b j (t ∷ ts) =
    let n = reach (range_at b j) in
    let first : ℤ = if t.0 == j then t.1 else pos 0 in
    let sum = abs_add first (coefficient ts j) in
    let times = mul-le-mul_right n sum in
    let is = share_is (t.0 == j) t.1 n in
    omega (arith, own_share b j ts)

-- what some variables in a row add to it
along : Bounds → ℕ → ℕ → List Term → ℕ
along b a zero ts = 0
along b a (suc n) ts = shares b a ts + along b (a + 1) n ts

width_along : (b : Bounds) (a n : ℕ) (ts : List Term) → width_over b (span a n ts) ≤ along b a n ts
unfolding along
width_along b a zero ts = omega arith
width_along b a (suc n) ts =
    let own = own_share b a ts in
    let rest = width_along b (a + 1) n ts in
    elim (cases_Bool (is_nonzero (coefficient ts a))) [ inl t ↦ rw t (omega arith) | inr f ↦ rw f (omega arith) ]

along_none : (b : Bounds) (a n : ℕ) → along b a n [] ≡ 0
unfolding along shares
along_none b a zero = refl
along_none b a (suc n) = let rest = along_none b (a + 1) n in omega arith

-- one term adds to one variable alone
lone : (b : Bounds) (t : Term) (a n : ℕ) → ℕ
lone b t a zero = 0
lone b t a (suc n) = share b a t + lone b t (a + 1) n

along_more : (b : Bounds) (t : Term) (ts : List Term) (a n : ℕ) → along b a n (t ∷ ts) ≡ lone b t a n + along b a n ts
unfolding along shares lone
along_more b t ts a zero = refl
along_more b t ts a (suc n) = let rest = along_more b t ts (a + 1) n in omega arith

lone_none : (b : Bounds) (t : Term) (a n : ℕ) → t.0 < a → lone b t a n ≡ 0
unfolding lone
lone_none b t a zero h = refl
lone_none b t a (suc n) h = let rest = lone_none b t (a + 1) n (omega arith) in rw (other t.0 a (λ e. omega arith)) (omega arith)

lone_least : (b : Bounds) (t : Term) (a n : ℕ) → lone b t a n ≤ unsigned_abs t.1 * reach (range_at b t.0)
unfolding lone
lone_least b t a zero = omega arith
lone_least b t a (suc n) =
    elim (cases_Bool (t.0 == a)) [
      | inl h ↦ (let e = eqb-true t.0 a h in
          let none = lone_none b t (a + 1) n (omega arith) in
          let own : unsigned_abs t.1 * reach (range_at b a) ≡ unsigned_abs t.1 * reach (range_at b t.0) = ap (λ j. unsigned_abs t.1 * reach (range_at b j)) (sym e) in
          rw h (omega arith))
      | inr f ↦ (let rest = lone_least b t (a + 1) n in rw f (omega arith))
    ]

along_least : (b : Bounds) (a n : ℕ) (ts : List Term) → along b a n ts ≤ width_over b ts
along_least b a n [] = omega (arith, along_none b a n)
along_least b a n (t ∷ ts) = omega (arith, along_more b t ts a n, lone_least b t a n, along_least b a n ts)

pub collected-narrow : (b : Bounds) (ts : List Term) → width_over b (collected ts) ≤ width_over b ts
collected-narrow b ts = omega (arith, width_along b 0 (past ts) ts, along_least b 0 (past ts) ts)

-- ---- negated terms

turned_zero : (negate : Bool) (v : ℤ) → v ≢ pos 0 → turned negate v ≢ pos 0
turned_zero true v h = λ e. h (omega (arith, ints))
turned_zero false v h = h

turned_size : (negate : Bool) (v : ℤ) → unsigned_abs (turned negate v) ≡ unsigned_abs v
turned_size true v = omega (arith, ints)
turned_size false v = refl

all_known : (count : ℕ) (negate : Bool) (ts : List Term) → All (λ t. t.0 < count) ts → All (λ t. t.0 < count) (turned_terms negate ts)
all_known count negate [] h = All-nil _
all_known count negate (t ∷ ts) h =
    All-cons (λ (u : Term). u.0 < count) (t.0, turned negate t.1) (turned_terms negate ts) (All-head (λ (u : Term). u.0 < count) t ts h) (all_known count negate ts (All-tail (λ (u : Term). u.0 < count) t ts h))

all_nonzero : (negate : Bool) (ts : List Term) → All (λ t. t.1 ≢ pos 0) ts → All (λ t. t.1 ≢ pos 0) (turned_terms negate ts)
all_nonzero negate [] h = All-nil _
all_nonzero negate (t ∷ ts) h =
    All-cons (λ (u : Term). u.1 ≢ pos 0) (t.0, turned negate t.1) (turned_terms negate ts) (turned_zero negate t.1 (All-head (λ (u : Term). u.1 ≢ pos 0) t ts h)) (all_nonzero negate ts (All-tail (λ (u : Term). u.1 ≢ pos 0) t ts h))

all_above : (k : ℕ) (negate : Bool) (ts : List Term) → All (λ t. k < t.0) ts → All (λ t. k < t.0) (turned_terms negate ts)
all_above k negate [] h = All-nil _
all_above k negate (t ∷ ts) h =
    All-cons (λ (u : Term). k < u.0) (t.0, turned negate t.1) (turned_terms negate ts) (All-head (λ (u : Term). k < u.0) t ts h) (all_above k negate ts (All-tail (λ (u : Term). k < u.0) t ts h))

all_rising : (negate : Bool) (ts : List Term) → AllPairs (λ t u. t.0 < u.0) ts → AllPairs (λ t u. t.0 < u.0) (turned_terms negate ts)
all_rising negate [] h = λ i j d l m. absurd (omega arith)
all_rising negate (t ∷ ts) h =
    AllPairs-cons (λ (u v : Term). u.0 < v.0) (t.0, turned negate t.1) (turned_terms negate ts)
    (all_above t.0 negate ts (λ k d l. h 0 (suc k) d (omega arith) (omega arith)))
    (all_rising negate ts (λ i j d l m. h (suc i) (suc j) d (omega arith) (omega arith)))

pub turned-lawful : (count : ℕ) (negate : Bool) (ts : List Term) → AreTermsLawful count ts → AreTermsLawful count (turned_terms negate ts)
turned-lawful count negate ts h = record { known = all_known count negate ts h.known; rising = all_rising negate ts h.rising; nonzero = all_nonzero negate ts h.nonzero }

pub turned-wide : (b : Bounds) (negate : Bool) (ts : List Term) → width_over b (turned_terms negate ts) ≡ width_over b ts
turned-wide b negate [] = refl
turned-wide b negate (t ∷ ts) =
    ap (λ n. n * reach (range_at b t.0) + width_over b (turned_terms negate ts)) (turned_size negate t.1)
    ∙ ap (λ n. unsigned_abs t.1 * reach (range_at b t.0) + n) (turned-wide b negate ts)
