-- Why a box holds no feasible point: what each reason says of the box.
use Rattle.std.specs.Prelude.{◌≡◌, ℕ, ◌+◌, ◌<◌, ◌≤◌, Bool, not, ◌&&◌, List, [], length, slice_index_or, true, false, ℤ, pos, int_le}
use Rattle.std.specs.Ordering.{int_eq}
use Rattle.sp_model.specs.declared.parts.Row.{Row}
use Rattle.sp_model.specs.declared.parts.Indicator.{Indicator}
use Rattle.sp_model.specs.declared.parts.Sos.{Sos}
use Rattle.sp_model.specs.declared.parts.SosKind.{SosKind}
use Rattle.sp_model.specs.declared.parts.SosKind.TheVariants.{One, Two}
use Rattle.sp_model.specs.declared.parts.ModelParts.{ModelParts}
use Rattle.sp_model.specs.Boxes.{Bounds, range_at}
use Rattle.sp_model.specs.Models.{switch_value}
use Rattle.sp_model.specs.Stated.{Core}
use Rattle.sp_sums.specs.Extremes.{is_low, is_high, span_of}
use Rattle.sp_sums.specs.Ranges.{IsFilled}
use Rattle.sp_sums.specs.Rows.{bare_row, row_at}
use Rattle.sp_activity.specs.declared.reasons.Reason.{Reason}
use Rattle.sp_activity.specs.declared.reasons.Reason.TheVariants.{Empty, RowLow, RowHigh, IndicatorLow, IndicatorHigh, Sos as SetClash, Semi}

-- ---- tests of ranges and rows

-- the range is empty
abbrev pub is_crossed : ℤ × ℤ → Bool
is_crossed r = not (int_le r.0 r.1)

-- 0 doesn't lie in the range
abbrev pub lacks_zero : ℤ × ℤ → Bool
lacks_zero r = not (int_le r.0 (pos 0) && int_le (pos 0) r.1)

-- no value of the core lies in the range
abbrev pub lacks_core : ℤ × ℤ → Core → Bool
lacks_core r c = not ((int_le c.1 c.2 && int_le c.1 r.1) && int_le r.0 c.2)

-- neither 0 nor a value of the core lies in the range
abbrev pub is_missed : ℤ × ℤ → Core → Bool
is_missed r c = lacks_zero r && lacks_core r c

-- the greatest sum of the row over the box is below its least side; the least sum is above its greatest
abbrev pub is_low_over : Bounds → Row → Bool
is_low_over b row = is_low row (span_of b row)

abbrev pub is_high_over : Bounds → Row → Bool
is_high_over b row = is_high row (span_of b row)

-- both bounds of the indicator's variable are the value that asks for its row
abbrev pub is_asked : Bounds → Indicator → Bool
is_asked b i = int_eq (range_at b i.var).0 (switch_value i.on) && int_eq (range_at b i.var).1 (switch_value i.on)

-- ---- items by place

abbrev pub bare_indicator : Indicator
bare_indicator = record { var = 0; on = false; row = bare_row }

abbrev pub bare_set : Sos
bare_set = record { kind = One; vars = [] }

abbrev pub indicator_at : List Indicator → ℕ → Indicator
indicator_at is k = slice_index_or is k bare_indicator

abbrev pub set_at : List Sos → ℕ → Sos
set_at sets k = slice_index_or sets k bare_set

abbrev pub core_at : List Core → ℕ → Core
core_at cores n = slice_index_or cores n (0, pos 0, pos 0)

-- the range of the member of a set at a place
abbrev pub member_range : Bounds → Sos → ℕ → ℤ × ℤ
member_range b set p = range_at b (slice_index_or set.vars p 0)

-- ---- the reasons

-- how far apart two places of a set of this kind are at least, if both members may not differ from 0
abbrev pub clash_distance : SosKind → ℕ
clash_distance One = 1
clash_distance Two = 2

-- two members at places that the set doesn't let differ from 0 together, both with ranges without 0
pub record IsClash (b : Bounds) (set : Sos) (p q : ℕ) : Type 0 where
  pub known : q < length set.vars
  pub apart : p + clash_distance set.kind ≤ q
  pub first : lacks_zero (member_range b set p) ≡ true
  pub second : lacks_zero (member_range b set q) ≡ true

-- the variable is known, and its range is empty
pub record IsEmptyAt (b : Bounds) (j : ℕ) : Type 0 where
  pub known : j < length b
  pub crossed : is_crossed (range_at b j) ≡ true

-- a core of the variable, missed together with 0 by its range
pub record IsMissedAt (b : Bounds) (cores : List Core) (j : ℕ) : Type 0 where
  pub place : ℕ
  pub known : place < length cores
  pub variable : (core_at cores place).0 ≡ j
  pub missed : is_missed (range_at b j) (core_at cores place) ≡ true

-- what a reason says, beside that no range is empty
abbrev pub Says : ModelParts → Bounds → Reason → Type 0
Says m b (Empty j) = ⊥
Says m b (RowLow k) = (k < length m.rows) × (is_low_over b (row_at m.rows k) ≡ true)
Says m b (RowHigh k) = (k < length m.rows) × (is_high_over b (row_at m.rows k) ≡ true)
Says m b (IndicatorLow k) = (k < length m.indicators) × (is_asked b (indicator_at m.indicators k) ≡ true) × (is_low_over b (indicator_at m.indicators k).row ≡ true)
Says m b (IndicatorHigh k) = (k < length m.indicators) × (is_asked b (indicator_at m.indicators k) ≡ true) × (is_high_over b (indicator_at m.indicators k).row ≡ true)
Says m b (SetClash k p q) = (k < length m.sos) × IsClash b (set_at m.sos k) p q
Says m b (Semi j) = IsMissedAt b m.semi j

-- the reason names known things only and holds of the box; of an empty box only Empty does
abbrev pub Holds : ModelParts → Bounds → Reason → Type 0
Holds m b (Empty j) = IsEmptyAt b j
Holds m b r = IsFilled b × Says m b r
