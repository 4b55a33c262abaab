-- The rules of a lawful model, in their order, and which of them is the first that is broken.
use Rattle.std.specs.Prelude.{◌≡◌, ◌≢◌, ◌⊎◌, ℕ, ◌+◌, ◌<◌, ◌≤◌, List, length, slice_index_or, take, All, AllPairs, HoldsAt, Option, None, Some, ℤ, pos, ◌≤ℤ◌, unsigned_abs}
use Rattle.sp_model.specs.declared.parts.Row.{Row}
use Rattle.sp_model.specs.declared.parts.Indicator.{Indicator}
use Rattle.sp_model.specs.declared.parts.Sos.{Sos}
use Rattle.sp_model.specs.declared.parts.ModelParts.{ModelParts}
use Rattle.sp_model.specs.declared.refusal.BuildRefusal.{BuildRefusal}
use Rattle.sp_model.specs.declared.refusal.BuildRefusal.TheVariants.{Variables, Bound, Open, Objective, Row as RefusedRow, Indicator as RefusedIndicator, Sos as RefusedSos, NoMemory}
use Rattle.sp_model.specs.Boxes.{Bounds, range_at}
use Rattle.sp_model.specs.Limits.{most_variables, most_rows, most_indicators, most_sets, greatest_bound, greatest_width, greatest_scale}
use Rattle.sp_model.specs.Models.{root_of, row_width, objective_width}
use Rattle.sp_model.specs.Rounds.{rounded}
use Rattle.sp_model.specs.Stated.{Core, OpenRange, OpenBounds, IsClosedRange, open_at, stated_of, widened}
use Rattle.sp_model.specs.Sums.{Term, side_width}

-- ---- the rules

-- terms over so many variables: all of them known, strictly rising, and no coefficient is 0
pub record AreTermsLawful (count : ℕ) (ts : List Term) : Type 0 where
  pub known : All (λ t. t.0 < count) ts
  pub rising : AllPairs (λ t u. t.0 < u.0) ts
  pub nonzero : All (λ t. t.1 ≢ pos 0) ts

-- at most 2,000 variables, and as many upper as lower bounds, missing ones included
pub record AreVariablesLawful (m : ModelParts) : Type 0 where
  pub few : length m.lower ≤ most_variables
  pub paired : length m.upper ≡ length m.lower

-- the bounds that are there have a magnitude of at most 10^15
pub record IsRangeLawful (r : OpenRange) : Type 0 where
  pub least : side_width r.0 ≤ greatest_bound
  pub greatest : side_width r.1 ≤ greatest_bound

-- a bound is missing, or it is this number
abbrev pub IsMissingOr : ℤ → Option ℤ → Type 0
IsMissingOr v None = Unit {0}
IsMissingOr v (Some bound) = bound ≡ v

-- a core over stated bounds: a known variable, numbers of at most 10^15, and the stated bounds that are there are the widened ones
pub record IsCoreLawful (b : OpenBounds) (c : Core) : Type 0 where
  pub known : c.0 < length b
  pub least : unsigned_abs c.1 ≤ greatest_bound
  pub greatest : unsigned_abs c.2 ≤ greatest_bound
  pub lower : IsMissingOr (widened c).0 (open_at b c.0).0
  pub upper : IsMissingOr (widened c).1 (open_at b c.0).1

-- the variables rise strictly, and each core is lawful
pub record AreCoresLawful (b : OpenBounds) (cores : List Core) : Type 0 where
  pub rising : AllPairs (λ c d. c.0 < d.0) cores
  pub each : All (IsCoreLawful b) cores

-- a row over a box
pub record IsRowLawful (b : Bounds) (row : Row) : Type 0 where
  pub terms : AreTermsLawful (length b) row.terms
  pub narrow : row_width b row ≤ greatest_width

pub record IsObjectiveLawful (m : ModelParts) : Type 0 where
  pub terms : AreTermsLawful (length (root_of m)) m.cost
  pub narrow : objective_width m ≤ greatest_width
  pub scaled : m.scale ≤ greatest_scale

-- both bounds are 0 or 1
pub record IsBinary (r : ℤ × ℤ) : Type 0 where
  pub least_from : pos 0 ≤ℤ r.0
  pub least_to : r.0 ≤ℤ pos 1
  pub greatest_from : pos 0 ≤ℤ r.1
  pub greatest_to : r.1 ≤ℤ pos 1

-- an indicator over a box
pub record IsIndicatorLawful (b : Bounds) (i : Indicator) : Type 0 where
  pub known : i.var < length b
  pub binary : IsBinary (range_at b i.var)
  pub row : IsRowLawful b i.row

-- known variables, each once
pub record IsSetLawful (count : ℕ) (set : Sos) : Type 0 where
  pub known : All (λ v. v < count) set.vars
  pub once : AllPairs (λ v w. v ≢ w) set.vars

-- no more items than the limit, and each of them keeps its rule
pub record AreLawful {X : Type 0} (limit : ℕ) (P : X → Type 0) (xs : List X) : Type 0 where
  pub few : length xs ≤ limit
  pub each : All P xs

-- ---- all of them, in their order

-- what is looked at before the rounds
pub record AreBoundsLawful (m : ModelParts) : Type 0 where
  pub variables : AreVariablesLawful m
  pub bounds : All IsRangeLawful (stated_of m)
  pub cores : AreCoresLawful (stated_of m) m.semi

-- and after them: no bound is missing
pub record HasClosedBox (m : ModelParts) : Type 0 where
  pub bounds : AreBoundsLawful m
  pub closed : All IsClosedRange (rounded m)

-- the rules before the rows
pub record IsLawfulToRows (m : ModelParts) : Type 0 where
  pub box : HasClosedBox m
  pub objective : IsObjectiveLawful m

-- all rules
pub record IsLawful (m : ModelParts) : Type 0 where
  pub box : HasClosedBox m
  pub objective : IsObjectiveLawful m
  pub rows : AreLawful most_rows (IsRowLawful (root_of m)) m.rows
  pub indicators : AreLawful most_indicators (IsIndicatorLawful (root_of m)) m.indicators
  pub sets : AreLawful most_sets (IsSetLawful (length (root_of m))) m.sos

-- ---- the first that is broken

-- the item at k is the first that is past the limit or breaks its rule
pub record IsFirstBroken {X : Type 0} (limit : ℕ) (P : X → Type 0) (xs : List X) (k : ℕ) : Type 0 where
  pub here : k < length xs
  pub before : AreLawful limit P (take k xs)
  pub broken : k < limit → ¬ HoldsAt P xs k

-- with the core at k the cores are no longer lawful, and it is that of the variable j
pub record IsFirstBrokenCore (b : OpenBounds) (cores : List Core) (k j : ℕ) : Type 0 where
  pub here : k < length cores
  pub before : AreCoresLawful b (take k cores)
  pub broken : ¬ AreCoresLawful b (take (k + 1) cores)
  pub variable : (slice_index_or cores k (j, pos 0, pos 0)).0 ≡ j

-- all bounds that are there are lawful, and a core isn't
pub record IsCoreFault (m : ModelParts) (j : ℕ) : Type 0 where
  pub bounds : All IsRangeLawful (stated_of m)
  pub place : ℕ
  pub first : IsFirstBrokenCore (stated_of m) m.semi place j

-- the refusal names the first rule that is broken, and its first item that breaks it; want of memory may come at any point
abbrev pub IsFirstFault : ModelParts → BuildRefusal → Type 0
IsFirstFault m Variables = ¬ AreVariablesLawful m
IsFirstFault m (Bound j) = AreVariablesLawful m × (IsFirstBroken most_variables IsRangeLawful (stated_of m) j ⊎ IsCoreFault m j)
IsFirstFault m (Open j) = AreBoundsLawful m × IsFirstBroken most_variables IsClosedRange (rounded m) j
IsFirstFault m Objective = HasClosedBox m × ¬ IsObjectiveLawful m
IsFirstFault m (RefusedRow r) = IsLawfulToRows m × IsFirstBroken most_rows (IsRowLawful (root_of m)) m.rows r
IsFirstFault m (RefusedIndicator k) =
    IsLawfulToRows m
    × AreLawful most_rows (IsRowLawful (root_of m)) m.rows
    × IsFirstBroken most_indicators (IsIndicatorLawful (root_of m)) m.indicators k
IsFirstFault m (RefusedSos k) =
    IsLawfulToRows m
    × AreLawful most_rows (IsRowLawful (root_of m)) m.rows
    × AreLawful most_indicators (IsIndicatorLawful (root_of m)) m.indicators
    × IsFirstBroken most_sets (IsSetLawful (length (root_of m))) m.sos k
IsFirstFault m NoMemory = Unit {0}

-- the refusals that come before any width is looked at
abbrev pub IsBoundsRefusal : BuildRefusal → Type 0
IsBoundsRefusal Variables = Unit {0}
IsBoundsRefusal (Bound j) = Unit {0}
IsBoundsRefusal (Open j) = Unit {0}
IsBoundsRefusal NoMemory = Unit {0}
IsBoundsRefusal Objective = ⊥
IsBoundsRefusal (RefusedRow r) = ⊥
IsBoundsRefusal (RefusedIndicator k) = ⊥
IsBoundsRefusal (RefusedSos k) = ⊥
