-- Which reason is the first, where the stages before it are open.
use Rattle.std.proofs.Common.{◌≡◌, ◌⊎◌, inl, inr, ℕ, ◌<◌, ◌≤◌, Bool, true, false, ◌&&◌, ◌||◌, List, length, refl, sym, ◌∙◌, subst, arith, AllPairs, pos}
use Rattle.std.proofs.lemmas.Bool.{cases_lt}
use Rattle.std.proofs.lemmas.Int.{ints}
use Rattle.sp_model.specs.declared.parts.ModelParts.{ModelParts}
use Rattle.sp_model.specs.Boxes.{Bounds}
use Rattle.sp_model.specs.Stated.{Core}
use Rattle.sp_sums.specs.Extremes.{is_broken_over}
use Rattle.sp_sums.specs.Ranges.{IsFilled}
use Rattle.sp_sums.specs.Rows.{IsFirstBroken, row_at}
use Rattle.sp_activity.specs.declared.reasons.Reason.{Reason}
use Rattle.sp_activity.specs.declared.reasons.Reason.TheVariants.{Empty, RowLow, RowHigh, IndicatorLow, IndicatorHigh, Sos as SetClash, Semi}
use Rattle.sp_activity.specs.Order.{Key, key, IsLess, IsFirst, IsOpen}
use Rattle.sp_activity.specs.Reasons.{Holds, IsClash, IsEmptyAt, IsMissedAt, core_at, indicator_at, is_asked, is_high_over, is_low_over, set_at}
use Rattle.sp_activity.specs.Stages.{AreCoresOpen, IsFirstClash, IsFirstCore, IsFirstEmpty, IsFirstGate, IsFirstSet, IsOpenToIndicators, IsOpenToRows, IsOpenToSets, is_gate_broken, is_set_broken, is_core_broken, row_reason, gate_reason}
use Rattle.sp_activity.proofs.PairLemmas.{clash_breaks}

-- ---- truths

true_false : (c : Bool) → c ≡ true → c ≡ false → ⊥
true_false c e f = let g : true ≡ false = sym e ∙ f in cc

or_left : (a b : Bool) → a || b ≡ false → a ≡ false
or_left true b e = e
or_left false b e = refl

or_right : (a b : Bool) → a || b ≡ false → b ≡ false
or_right true b e = cc
or_right false b e = e

or_other : (a b : Bool) → a || b ≡ true → a ≡ false → b ≡ true
or_other true b e f = cc
or_other false b e f = e

and_true : (a b : Bool) → a ≡ true → b ≡ true → a && b ≡ true
and_true a b e f = rw (e, f) refl

and_first : (a b : Bool) → a && b ≡ true → a ≡ true
and_first true b e = refl
and_first false b e = cc

and_second : (a b : Bool) → a && b ≡ true → b ≡ true
and_second true b e = e
and_second false b e = cc

-- ---- keys

-- the kind is no greater
pub kind_le : (a b : Key) → IsLess a b → a.0 ≤ b.0
kind_le a b (inl l) = omega arith
kind_le a b (inr r) = omega (arith, r.0)

-- and where it is the same, the places decide
pub places_less : (a b : Key) → IsLess a b → a.0 ≡ b.0 → (a.1 < b.1) ⊎ ((a.1 ≡ b.1) × ((a.2 < b.2) ⊎ ((a.2 ≡ b.2) × (a.3 < b.3))))
places_less a b (inl l) e = absurd (omega arith)
places_less a b (inr r) e = r.1

-- ---- what is open before a stage

filled_not_empty : (b : Bounds) (j : ℕ) → IsFilled b → IsEmptyAt b j → ⊥
filled_not_empty b j f h = let le = f.each j h.known in let e = h.crossed in grind (arith, ints)

not_low : (m : ModelParts) (b : Bounds) (k : ℕ) → is_broken_over b (row_at m.rows k) ≡ false → is_low_over b (row_at m.rows k) ≡ true → ⊥
not_low m b k e h = true_false (is_low_over b (row_at m.rows k)) h (or_left (is_low_over b (row_at m.rows k)) (is_high_over b (row_at m.rows k)) e)

not_high : (m : ModelParts) (b : Bounds) (k : ℕ) → is_broken_over b (row_at m.rows k) ≡ false → is_high_over b (row_at m.rows k) ≡ true → ⊥
not_high m b k e h = true_false (is_high_over b (row_at m.rows k)) h (or_right (is_low_over b (row_at m.rows k)) (is_high_over b (row_at m.rows k)) e)

or_from_left : (a b : Bool) → a ≡ true → a || b ≡ true
or_from_left a b e = rw e refl

or_from_right : (a b : Bool) → b ≡ true → a || b ≡ true
or_from_right true b e = refl
or_from_right false b e = e

not_gate_low : (m : ModelParts) (b : Bounds) (k : ℕ) → is_gate_broken b (indicator_at m.indicators k) ≡ false → is_asked b (indicator_at m.indicators k) ≡ true → is_low_over b (indicator_at m.indicators k).row ≡ true → ⊥
not_gate_low m b k e a h = true_false (is_gate_broken b (indicator_at m.indicators k))
    (and_true (is_asked b (indicator_at m.indicators k)) (is_broken_over b (indicator_at m.indicators k).row) a (or_from_left (is_low_over b (indicator_at m.indicators k).row) (is_high_over b (indicator_at m.indicators k).row) h)) e

not_gate_high : (m : ModelParts) (b : Bounds) (k : ℕ) → is_gate_broken b (indicator_at m.indicators k) ≡ false → is_asked b (indicator_at m.indicators k) ≡ true → is_high_over b (indicator_at m.indicators k).row ≡ true → ⊥
not_gate_high m b k e a h = true_false (is_gate_broken b (indicator_at m.indicators k))
    (and_true (is_asked b (indicator_at m.indicators k)) (is_broken_over b (indicator_at m.indicators k).row) a (or_from_right (is_low_over b (indicator_at m.indicators k).row) (is_high_over b (indicator_at m.indicators k).row) h)) e

not_clash : (m : ModelParts) (b : Bounds) (k p q : ℕ) → is_set_broken b (set_at m.sos k) ≡ false → IsClash b (set_at m.sos k) p q → ⊥
not_clash m b k p q e h = true_false (is_set_broken b (set_at m.sos k)) (clash_breaks b (set_at m.sos k) p q h) e

not_missed : (b : Bounds) (cores : List Core) (j : ℕ) → AreCoresOpen b cores → IsMissedAt b cores j → ⊥
not_missed b cores j o h =
    let here : is_core_broken b (core_at cores h.place) ≡ true = rw h.variable h.missed in
    true_false (is_core_broken b (core_at cores h.place)) here (o.each h.place h.known)

pub before_rows : (m : ModelParts) (b : Bounds) → IsFilled b → (s : Reason) → (key s).0 < 1 → ¬ Holds m b s
before_rows m b f (Empty j) l h = filled_not_empty b j f h
before_rows m b f (RowLow k) l h = absurd (omega arith)
before_rows m b f (RowHigh k) l h = absurd (omega arith)
before_rows m b f (IndicatorLow k) l h = absurd (omega arith)
before_rows m b f (IndicatorHigh k) l h = absurd (omega arith)
before_rows m b f (SetClash k p q) l h = absurd (omega arith)
before_rows m b f (Semi j) l h = absurd (omega arith)

pub before_indicators : (m : ModelParts) (b : Bounds) → IsOpenToRows m b → (s : Reason) → (key s).0 < 2 → ¬ Holds m b s
before_indicators m b o (Empty j) l h = filled_not_empty b j o.filled h
before_indicators m b o (RowLow k) l h = not_low m b k (o.rows.each k h.1.0) h.1.1
before_indicators m b o (RowHigh k) l h = not_high m b k (o.rows.each k h.1.0) h.1.1
before_indicators m b o (IndicatorLow k) l h = absurd (omega arith)
before_indicators m b o (IndicatorHigh k) l h = absurd (omega arith)
before_indicators m b o (SetClash k p q) l h = absurd (omega arith)
before_indicators m b o (Semi j) l h = absurd (omega arith)

pub before_sets : (m : ModelParts) (b : Bounds) → IsOpenToIndicators m b → (s : Reason) → (key s).0 < 3 → ¬ Holds m b s
before_sets m b o (Empty j) l h = filled_not_empty b j o.rows.filled h
before_sets m b o (RowLow k) l h = not_low m b k (o.rows.rows.each k h.1.0) h.1.1
before_sets m b o (RowHigh k) l h = not_high m b k (o.rows.rows.each k h.1.0) h.1.1
before_sets m b o (IndicatorLow k) l h = not_gate_low m b k (o.indicators.each k h.1.0) h.1.1 h.1.2
before_sets m b o (IndicatorHigh k) l h = not_gate_high m b k (o.indicators.each k h.1.0) h.1.1 h.1.2
before_sets m b o (SetClash k p q) l h = absurd (omega arith)
before_sets m b o (Semi j) l h = absurd (omega arith)

pub before_cores : (m : ModelParts) (b : Bounds) → IsOpenToSets m b → (s : Reason) → (key s).0 < 4 → ¬ Holds m b s
before_cores m b o (Empty j) l h = filled_not_empty b j o.indicators.rows.filled h
before_cores m b o (RowLow k) l h = not_low m b k (o.indicators.rows.rows.each k h.1.0) h.1.1
before_cores m b o (RowHigh k) l h = not_high m b k (o.indicators.rows.rows.each k h.1.0) h.1.1
before_cores m b o (IndicatorLow k) l h = not_gate_low m b k (o.indicators.indicators.each k h.1.0) h.1.1 h.1.2
before_cores m b o (IndicatorHigh k) l h = not_gate_high m b k (o.indicators.indicators.each k h.1.0) h.1.1 h.1.2
before_cores m b o (SetClash k p q) l h = not_clash m b k p q (o.sets.each k h.1.0) h.1.1
before_cores m b o (Semi j) l h = absurd (omega arith)

pub open_all : (m : ModelParts) (b : Bounds) → IsOpenToSets m b → AreCoresOpen b m.semi → (s : Reason) → ¬ Holds m b s
open_all m b o c (Empty j) h = before_cores m b o (Empty j) (omega arith) h
open_all m b o c (RowLow k) h = before_cores m b o (RowLow k) (omega arith) h
open_all m b o c (RowHigh k) h = before_cores m b o (RowHigh k) (omega arith) h
open_all m b o c (IndicatorLow k) h = before_cores m b o (IndicatorLow k) (omega arith) h
open_all m b o c (IndicatorHigh k) h = before_cores m b o (IndicatorHigh k) (omega arith) h
open_all m b o c (SetClash k p q) h = before_cores m b o (SetClash k p q) (omega arith) h
open_all m b o c (Semi j) h = not_missed b m.semi j c h.1

pub is_open : (m : ModelParts) (b : Bounds) → IsOpenToSets m b → AreCoresOpen b m.semi → IsOpen m b
is_open m b o c = record { each = open_all m b o c }

-- ---- the first

place_cases : (i x y k : ℕ) → (i < k) ⊎ ((i ≡ k) × ((x < 0) ⊎ ((x ≡ 0) × (y < 0)))) → i < k
place_cases i x y k (inl l) = l
place_cases i x y k (inr e) = absurd (elim e.1 [ inl v ↦ omega arith | inr w ↦ omega (arith, w.1) ])

place_before : (n i x y k : ℕ) → IsLess (n, i, x, y) (n, k, 0, 0) → i < k
place_before n i x y k l = place_cases i x y k (places_less (n, i, x, y) (n, k, 0, 0) l refl)

upto_cases : (i x y k : ℕ) → (i < k) ⊎ ((i ≡ k) × ((x < 1) ⊎ ((x ≡ 1) × (y < 0)))) → (i < k) ⊎ ((i ≡ k) × (x ≡ 0))
upto_cases i x y k (inl l) = inl l
upto_cases i x y k (inr e) = elim e.1 [ inl v ↦ inr (e.0, omega arith) | inr w ↦ absurd (omega (arith, w.1)) ]

place_upto : (n i x y k : ℕ) → IsLess (n, i, x, y) (n, k, 1, 0) → (i < k) ⊎ ((i ≡ k) × (x ≡ 0))
place_upto n i x y k l = upto_cases i x y k (places_less (n, i, x, y) (n, k, 1, 0) l refl)

high_cases : (i k x : ℕ) → x ≡ 1 → (i < k) ⊎ ((i ≡ k) × (x ≡ 0)) → i < k
high_cases i k x o (inl l) = l
high_cases i k x o (inr e) = absurd (let h = e.1 in omega arith)

empty_before : (m : ModelParts) (b : Bounds) (j : ℕ) → IsFirstEmpty b j → (s : Reason) → IsLess (key s) (0, j, 0, 0) → ¬ Holds m b s
empty_before m b j h (Empty i) l g = h.before i (place_before 0 i 0 0 j l) g
empty_before m b j h (RowLow k) l g = absurd (omega (arith, kind_le (1, k, 0, 0) (0, j, 0, 0) l))
empty_before m b j h (RowHigh k) l g = absurd (omega (arith, kind_le (1, k, 1, 0) (0, j, 0, 0) l))
empty_before m b j h (IndicatorLow k) l g = absurd (omega (arith, kind_le (2, k, 0, 0) (0, j, 0, 0) l))
empty_before m b j h (IndicatorHigh k) l g = absurd (omega (arith, kind_le (2, k, 1, 0) (0, j, 0, 0) l))
empty_before m b j h (SetClash k p q) l g = absurd (omega (arith, kind_le (3, k, p, q) (0, j, 0, 0) l))
empty_before m b j h (Semi i) l g = absurd (omega (arith, kind_le (4, i, 0, 0) (0, j, 0, 0) l))

pub empty_first : (m : ModelParts) (b : Bounds) (j : ℕ) → IsFirstEmpty b j → IsFirst m b (Empty j)
empty_first m b j h = record { holds = h.here; before = empty_before m b j h }

low_before : (m : ModelParts) (b : Bounds) (k : ℕ) → IsFilled b → IsFirstBroken b m.rows k → (s : Reason) → IsLess (key s) (1, k, 0, 0) → ¬ Holds m b s
low_before m b k f h (Empty i) l g = filled_not_empty b i f g
low_before m b k f h (RowLow i) l g = not_low m b i (h.before i (place_before 1 i 0 0 k l)) g.1.1
low_before m b k f h (RowHigh i) l g = not_high m b i (h.before i (place_before 1 i 1 0 k l)) g.1.1
low_before m b k f h (IndicatorLow i) l g = absurd (omega (arith, kind_le (2, i, 0, 0) (1, k, 0, 0) l))
low_before m b k f h (IndicatorHigh i) l g = absurd (omega (arith, kind_le (2, i, 1, 0) (1, k, 0, 0) l))
low_before m b k f h (SetClash i p q) l g = absurd (omega (arith, kind_le (3, i, p, q) (1, k, 0, 0) l))
low_before m b k f h (Semi i) l g = absurd (omega (arith, kind_le (4, i, 0, 0) (1, k, 0, 0) l))

pub low_first : (m : ModelParts) (b : Bounds) (k : ℕ) → IsFilled b → IsFirstBroken b m.rows k → is_low_over b (row_at m.rows k) ≡ true → IsFirst m b (RowLow k)
low_first m b k f h t = record { holds = (f, (h.here.known, t)); before = low_before m b k f h }

high_before : (m : ModelParts) (b : Bounds) (k : ℕ) → IsFilled b → IsFirstBroken b m.rows k → is_low_over b (row_at m.rows k) ≡ false → (s : Reason) → IsLess (key s) (1, k, 1, 0) → ¬ Holds m b s
high_before m b k f h t (Empty i) l g = filled_not_empty b i f g
high_before m b k f h t (RowLow i) l g = elim (place_upto 1 i 0 0 k l) [
  | inl u ↦ not_low m b i (h.before i u) g.1.1
  | inr e ↦ true_false (is_low_over b (row_at m.rows k)) (subst (λ (n : ℕ). is_low_over b (row_at m.rows n) ≡ true) e.0 g.1.1) t
]
high_before m b k f h t (RowHigh i) l g = not_high m b i (h.before i (high_cases i k 1 refl (place_upto 1 i 1 0 k l))) g.1.1
high_before m b k f h t (IndicatorLow i) l g = absurd (omega (arith, kind_le (2, i, 0, 0) (1, k, 1, 0) l))
high_before m b k f h t (IndicatorHigh i) l g = absurd (omega (arith, kind_le (2, i, 1, 0) (1, k, 1, 0) l))
high_before m b k f h t (SetClash i p q) l g = absurd (omega (arith, kind_le (3, i, p, q) (1, k, 1, 0) l))
high_before m b k f h t (Semi i) l g = absurd (omega (arith, kind_le (4, i, 0, 0) (1, k, 1, 0) l))

pub high_first : (m : ModelParts) (b : Bounds) (k : ℕ) → IsFilled b → IsFirstBroken b m.rows k → is_low_over b (row_at m.rows k) ≡ false → IsFirst m b (RowHigh k)
high_first m b k f h t = record {
  holds = (f, (h.here.known, or_other (is_low_over b (row_at m.rows k)) (is_high_over b (row_at m.rows k)) h.here.broken t));
  before = high_before m b k f h t;
}

gate_low_before : (m : ModelParts) (b : Bounds) (k : ℕ) → IsOpenToRows m b → IsFirstGate b m.indicators k → (s : Reason) → IsLess (key s) (2, k, 0, 0) → ¬ Holds m b s
gate_low_before m b k o h (Empty i) l g = before_indicators m b o (Empty i) (omega arith) g
gate_low_before m b k o h (RowLow i) l g = before_indicators m b o (RowLow i) (omega arith) g
gate_low_before m b k o h (RowHigh i) l g = before_indicators m b o (RowHigh i) (omega arith) g
gate_low_before m b k o h (IndicatorLow i) l g = not_gate_low m b i (h.before i (place_before 2 i 0 0 k l)) g.1.1 g.1.2
gate_low_before m b k o h (IndicatorHigh i) l g = not_gate_high m b i (h.before i (place_before 2 i 1 0 k l)) g.1.1 g.1.2
gate_low_before m b k o h (SetClash i p q) l g = absurd (omega (arith, kind_le (3, i, p, q) (2, k, 0, 0) l))
gate_low_before m b k o h (Semi i) l g = absurd (omega (arith, kind_le (4, i, 0, 0) (2, k, 0, 0) l))

pub gate_low_first : (m : ModelParts) (b : Bounds) (k : ℕ) → IsOpenToRows m b → IsFirstGate b m.indicators k → is_low_over b (indicator_at m.indicators k).row ≡ true → IsFirst m b (IndicatorLow k)
gate_low_first m b k o h t = record {
  holds = (o.filled, (h.known, and_first (is_asked b (indicator_at m.indicators k)) (is_broken_over b (indicator_at m.indicators k).row) h.here, t));
  before = gate_low_before m b k o h;
}

gate_high_before : (m : ModelParts) (b : Bounds) (k : ℕ) → IsOpenToRows m b → IsFirstGate b m.indicators k → is_low_over b (indicator_at m.indicators k).row ≡ false → (s : Reason) → IsLess (key s) (2, k, 1, 0) → ¬ Holds m b s
gate_high_before m b k o h t (Empty i) l g = before_indicators m b o (Empty i) (omega arith) g
gate_high_before m b k o h t (RowLow i) l g = before_indicators m b o (RowLow i) (omega arith) g
gate_high_before m b k o h t (RowHigh i) l g = before_indicators m b o (RowHigh i) (omega arith) g
gate_high_before m b k o h t (IndicatorLow i) l g = elim (place_upto 2 i 0 0 k l) [
  | inl u ↦ not_gate_low m b i (h.before i u) g.1.1 g.1.2
  | inr e ↦ true_false (is_low_over b (indicator_at m.indicators k).row) (subst (λ (n : ℕ). is_low_over b (indicator_at m.indicators n).row ≡ true) e.0 g.1.2) t
]
gate_high_before m b k o h t (IndicatorHigh i) l g = not_gate_high m b i (h.before i (high_cases i k 1 refl (place_upto 2 i 1 0 k l))) g.1.1 g.1.2
gate_high_before m b k o h t (SetClash i p q) l g = absurd (omega (arith, kind_le (3, i, p, q) (2, k, 1, 0) l))
gate_high_before m b k o h t (Semi i) l g = absurd (omega (arith, kind_le (4, i, 0, 0) (2, k, 1, 0) l))

pub gate_high_first : (m : ModelParts) (b : Bounds) (k : ℕ) → IsOpenToRows m b → IsFirstGate b m.indicators k → is_low_over b (indicator_at m.indicators k).row ≡ false → IsFirst m b (IndicatorHigh k)
gate_high_first m b k o h t =
    let row = (indicator_at m.indicators k).row in
    let asked = is_asked b (indicator_at m.indicators k) in
    record {
      holds = (o.filled, (h.known, and_first asked (is_broken_over b row) h.here, or_other (is_low_over b row) (is_high_over b row) (and_second asked (is_broken_over b row) h.here) t));
      before = gate_high_before m b k o h t;
    }

set_before : (m : ModelParts) (b : Bounds) (k p q : ℕ) → IsOpenToIndicators m b → IsFirstSet b m.sos k → IsFirstClash b (set_at m.sos k) p q → (s : Reason) → IsLess (key s) (3, k, p, q) → ¬ Holds m b s
set_before m b k p q o h c (Empty i) l g = before_sets m b o (Empty i) (omega arith) g
set_before m b k p q o h c (RowLow i) l g = before_sets m b o (RowLow i) (omega arith) g
set_before m b k p q o h c (RowHigh i) l g = before_sets m b o (RowHigh i) (omega arith) g
set_before m b k p q o h c (IndicatorLow i) l g = before_sets m b o (IndicatorLow i) (omega arith) g
set_before m b k p q o h c (IndicatorHigh i) l g = before_sets m b o (IndicatorHigh i) (omega arith) g
set_before m b k p q o h c (SetClash i u v) l g = elim (places_less (3, i, u, v) (3, k, p, q) l refl) [
  | inl e ↦ not_clash m b i u v (h.before i e) g.1.1
  | inr e ↦ c.before u v e.1 (subst (λ (n : ℕ). IsClash b (set_at m.sos n) u v) e.0 g.1.1)
]
set_before m b k p q o h c (Semi i) l g = absurd (omega (arith, kind_le (4, i, 0, 0) (3, k, p, q) l))

pub set_first : (m : ModelParts) (b : Bounds) (k p q : ℕ) → IsOpenToIndicators m b → IsFirstSet b m.sos k → IsFirstClash b (set_at m.sos k) p q → IsFirst m b (SetClash k p q)
set_first m b k p q o h c = record { holds = (o.rows.filled, (h.known, c.here)); before = set_before m b k p q o h c }

-- a core of a lesser variable stands before
earlier : (cores : List Core) → AllPairs (λ (c : Core) (d : Core). c.0 < d.0) cores → (n i : ℕ) → n < length cores → i < length cores → (core_at cores i).0 < (core_at cores n).0 → i < n
earlier cores r n i h g l = elim (cases_lt i n) [
  | inl e ↦ e
  | inr e ↦ absurd (elim (cases_lt n i) [
    | inl u ↦ (let k = r n i (0, pos 0, pos 0) u g in omega arith)
    | inr u ↦ (let same : i ≡ n = omega arith in let k = rw same at l in omega arith)
  ])
]

core_before : (m : ModelParts) (b : Bounds) (n : ℕ) → IsOpenToSets m b → AllPairs (λ (c : Core) (d : Core). c.0 < d.0) m.semi → IsFirstCore b m.semi n → (s : Reason) → IsLess (key s) (4, (core_at m.semi n).0, 0, 0) → ¬ Holds m b s
core_before m b n o r h (Empty i) l g = before_cores m b o (Empty i) (omega arith) g
core_before m b n o r h (RowLow i) l g = before_cores m b o (RowLow i) (omega arith) g
core_before m b n o r h (RowHigh i) l g = before_cores m b o (RowHigh i) (omega arith) g
core_before m b n o r h (IndicatorLow i) l g = before_cores m b o (IndicatorLow i) (omega arith) g
core_before m b n o r h (IndicatorHigh i) l g = before_cores m b o (IndicatorHigh i) (omega arith) g
core_before m b n o r h (SetClash i p q) l g = before_cores m b o (SetClash i p q) (omega arith) g
core_before m b n o r h (Semi i) l g =
    let less : i < (core_at m.semi n).0 = place_before 4 i 0 0 (core_at m.semi n).0 l in
    let var = g.1.variable in
    let sooner : g.1.place < n = earlier m.semi r n g.1.place h.known g.1.known (omega arith) in
    let here : is_core_broken b (core_at m.semi g.1.place) ≡ true = rw g.1.variable g.1.missed in
    true_false (is_core_broken b (core_at m.semi g.1.place)) here (h.before g.1.place sooner)

pub core_first : (m : ModelParts) (b : Bounds) (n : ℕ) → IsOpenToSets m b → AllPairs (λ (c : Core) (d : Core). c.0 < d.0) m.semi → IsFirstCore b m.semi n → IsFirst m b (Semi (core_at m.semi n).0)
core_first m b n o r h = record {
  holds = (o.indicators.rows.filled, record { place = n; known = h.known; variable = refl; missed = h.here });
  before = core_before m b n o r h;
}

-- ---- as the code names them

row_by : (m : ModelParts) (b : Bounds) (k : ℕ) (low : Bool) → is_low_over b (row_at m.rows k) ≡ low → IsFilled b → IsFirstBroken b m.rows k → IsFirst m b (row_reason k low)
row_by m b k true e f h = low_first m b k f h e
row_by m b k false e f h = high_first m b k f h e

pub row_first : (m : ModelParts) (b : Bounds) (k : ℕ) → IsFilled b → IsFirstBroken b m.rows k → IsFirst m b (row_reason k (is_low_over b (row_at m.rows k)))
row_first m b k f h = row_by m b k (is_low_over b (row_at m.rows k)) refl f h

gate_by : (m : ModelParts) (b : Bounds) (k : ℕ) (low : Bool) → is_low_over b (indicator_at m.indicators k).row ≡ low → IsOpenToRows m b → IsFirstGate b m.indicators k → IsFirst m b (gate_reason k low)
gate_by m b k true e o h = gate_low_first m b k o h e
gate_by m b k false e o h = gate_high_first m b k o h e

pub gate_first : (m : ModelParts) (b : Bounds) (k : ℕ) → IsOpenToRows m b → IsFirstGate b m.indicators k → IsFirst m b (gate_reason k (is_low_over b (indicator_at m.indicators k).row))
gate_first m b k o h = gate_by m b k (is_low_over b (indicator_at m.indicators k).row) refl o h
