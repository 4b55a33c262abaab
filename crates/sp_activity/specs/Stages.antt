-- What private functions say: the first item of a list that can't hold over a box, and that there is none.
use Rattle.std.specs.Prelude.{◌≡◌, ◌⊎◌, ℕ, ◌-◌, ◌<◌, ◌≤◌, Bool, true, false, ◌&&◌, ◌||◌, List, [], ◌∷◌, length, map, drop, slice_index_or, All, AllPairs}
use Rattle.std.specs.List.{list_any}
use Rattle.sp_model.specs.declared.parts.Indicator.{Indicator}
use Rattle.sp_model.specs.declared.parts.Sos.{Sos}
use Rattle.sp_model.specs.declared.parts.ModelParts.{ModelParts}
use Rattle.sp_model.specs.Boxes.{Bounds, range_at}
use Rattle.sp_model.specs.Stated.{Core}
use Rattle.sp_sums.specs.Extremes.{AreTermsNarrow, is_broken_over}
use Rattle.sp_sums.specs.Ranges.{IsFilled}
use Rattle.sp_sums.specs.Rows.{AreUnbroken}
use Rattle.sp_activity.specs.declared.reasons.Reason.{Reason}
use Rattle.sp_activity.specs.declared.reasons.Reason.TheVariants.{Empty, RowLow, RowHigh, IndicatorLow, IndicatorHigh, Sos as SetClash, Semi}
use Rattle.sp_activity.specs.Reasons.{IsClash, IsEmptyAt, clash_distance, core_at, indicator_at, is_asked, is_missed, lacks_zero, set_at}

-- the indicator asks for its row, and that is broken
abbrev pub is_gate_broken : Bounds → Indicator → Bool
is_gate_broken b i = is_asked b i && is_broken_over b i.row

-- two of the truths that are true stand at least so far apart
abbrev pub has_pair : ℕ → List Bool → Bool
has_pair d [] = false
has_pair d (f ∷ fs) = (f && list_any (λ g. g) (drop (d - 1) fs)) || has_pair d fs

-- two members have ranges without 0 that the set doesn't let differ from 0 together
abbrev pub is_set_broken : Bounds → Sos → Bool
is_set_broken b set = has_pair (clash_distance set.kind) (map (λ v. lacks_zero (range_at b v)) set.vars)

-- the variable's range has neither 0 nor a value of the core
abbrev pub is_core_broken : Bounds → Core → Bool
is_core_broken b c = is_missed (range_at b c.0) c

-- the first range that is empty
pub record IsFirstEmpty (b : Bounds) (j : ℕ) : Type 0 where
  pub here : IsEmptyAt b j
  pub before : (i : ℕ) → i < j → ¬ IsEmptyAt b i

pub record IsFirstGate (b : Bounds) (is : List Indicator) (k : ℕ) : Type 0 where
  pub known : k < length is
  pub here : is_gate_broken b (indicator_at is k) ≡ true
  pub before : (i : ℕ) → i < k → is_gate_broken b (indicator_at is i) ≡ false

pub record AreGatesOpen (b : Bounds) (is : List Indicator) : Type 0 where
  pub each : (k : ℕ) → k < length is → is_gate_broken b (indicator_at is k) ≡ false

pub record IsFirstSet (b : Bounds) (sets : List Sos) (k : ℕ) : Type 0 where
  pub known : k < length sets
  pub here : is_set_broken b (set_at sets k) ≡ true
  pub before : (i : ℕ) → i < k → is_set_broken b (set_at sets i) ≡ false

pub record AreSetsOpen (b : Bounds) (sets : List Sos) : Type 0 where
  pub each : (k : ℕ) → k < length sets → is_set_broken b (set_at sets k) ≡ false

pub record IsFirstCore (b : Bounds) (cores : List Core) (n : ℕ) : Type 0 where
  pub known : n < length cores
  pub here : is_core_broken b (core_at cores n) ≡ true
  pub before : (i : ℕ) → i < n → is_core_broken b (core_at cores i) ≡ false

pub record AreCoresOpen (b : Bounds) (cores : List Core) : Type 0 where
  pub each : (n : ℕ) → n < length cores → is_core_broken b (core_at cores n) ≡ false

-- from a place on, no range of the variables is one without 0
pub record IsNoneNonzero (b : Bounds) (vars : List ℕ) (start : ℕ) : Type 0 where
  pub each : (p : ℕ) → start ≤ p → p < length vars → lacks_zero (range_at b (slice_index_or vars p 0)) ≡ false

-- and the first that is
pub record IsFirstNonzero (b : Bounds) (vars : List ℕ) (start p : ℕ) : Type 0 where
  pub from : start ≤ p
  pub known : p < length vars
  pub here : lacks_zero (range_at b (slice_index_or vars p 0)) ≡ true
  pub before : (i : ℕ) → start ≤ i → i < p → lacks_zero (range_at b (slice_index_or vars i 0)) ≡ false

-- the first two places of a clash: by the first of them, then by the second
pub record IsFirstClash (b : Bounds) (set : Sos) (p q : ℕ) : Type 0 where
  pub here : IsClash b set p q
  pub before : (i j : ℕ) → (i < p) ⊎ ((i ≡ p) × (j < q)) → ¬ IsClash b set i j

-- all that is looked at before the sets is open, and so on
pub record IsOpenToRows (m : ModelParts) (b : Bounds) : Type 0 where
  pub filled : IsFilled b
  pub rows : AreUnbroken b m.rows

pub record IsOpenToIndicators (m : ModelParts) (b : Bounds) : Type 0 where
  pub rows : IsOpenToRows m b
  pub indicators : AreGatesOpen b m.indicators

pub record IsOpenToSets (m : ModelParts) (b : Bounds) : Type 0 where
  pub indicators : IsOpenToIndicators m b
  pub sets : AreSetsOpen b m.sos

-- what the search for a reason needs of a lawful model and a box that isn't empty
pub record IsReady (m : ModelParts) (b : Bounds) : Type 0 where
  pub filled : IsFilled b
  pub row_few : length m.rows ≤ 10000
  pub rows : All (λ row. AreTermsNarrow b row.terms) m.rows
  pub gate_few : length m.indicators ≤ 1000
  pub switches : All (λ i. i.var < length b) m.indicators
  pub gates : All (λ i. AreTermsNarrow b i.row.terms) m.indicators
  pub set_few : length m.sos ≤ 1000
  pub members : All (λ set. All (λ v. v < length b) set.vars) m.sos
  pub short : All (λ set. length set.vars ≤ 2000) m.sos
  pub cores : All (λ c. c.0 < length b) m.semi
  pub rising : AllPairs (λ c d. c.0 < d.0) m.semi

-- a broken row is low, or else high
abbrev pub row_reason : ℕ → Bool → Reason
row_reason k true = RowLow k
row_reason k false = RowHigh k

abbrev pub gate_reason : ℕ → Bool → Reason
gate_reason k true = IndicatorLow k
gate_reason k false = IndicatorHigh k

-- the reason is that this variable's range is empty
abbrev pub IsEmptyBy : Bounds → Reason → Type 0
IsEmptyBy b (Empty j) = IsEmptyAt b j
IsEmptyBy b (RowLow k) = ⊥
IsEmptyBy b (RowHigh k) = ⊥
IsEmptyBy b (IndicatorLow k) = ⊥
IsEmptyBy b (IndicatorHigh k) = ⊥
IsEmptyBy b (SetClash k p q) = ⊥
IsEmptyBy b (Semi j) = ⊥
