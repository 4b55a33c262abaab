-- The draft that the lines of a file make.
use Rattle.std.specs.Prelude.{ℕ, Bool, true, false, not, ◌&&◌, ◌==◌, if◌then◌else◌, List, [], ◌∷◌, length, filter, map, fold, Option, Some, None, slice_index_or, pos}
use Rattle.std.specs.List.{range_with_len}
use Rattle.sp_decimal.specs.DecimalFraction.{DecimalFraction, opposite}
use Rattle.sp_decimal.specs.declared.numerals.Numeral.{Numeral}
use Rattle.sp_decimal.specs.declared.numerals.Numeral.TheVariants.{Exact, Huge}
use Rattle.sp_draft.specs.Drafts.{WrittenTerm}
use Rattle.sp_draft.specs.Names.{is_among}
use Rattle.sp_draft.specs.declared.drafts.Draft.{Draft}
use Rattle.sp_draft.specs.declared.drafts.DraftVar.{DraftVar}
use Rattle.sp_draft.specs.declared.drafts.DraftRow.{DraftRow}
use Rattle.sp_draft.specs.declared.drafts.DraftIndicator.{DraftIndicator}
use Rattle.sp_draft.specs.declared.drafts.VarKind.TheVariants.{Continuous, Integer}
use Rattle.sp_draft.specs.declared.drafts.Sense.TheVariants as sense
use Rattle.sp_draft.specs.declared.drafts.Sides.{Sides}
use Rattle.sp_draft.specs.declared.drafts.Sides.TheVariants.{Le, Ge, Eq, Ranged}
use Rattle.sp_mps_words.specs.declared.kinds.BoundKind.{BoundKind}
use Rattle.sp_mps_words.specs.declared.kinds.BoundKind.TheVariants.{Upper, Lower, Fixed, Unbounded, NoLower, NoUpper, Binary, WholeLower, WholeUpper, SemiUpper}
use Rattle.sp_mps_words.specs.declared.kinds.RowKind.{RowKind}
use Rattle.sp_mps_words.specs.declared.kinds.RowKind.TheVariants.{Free, Less, Greater, Equal}
use Rattle.sp_mps_words.specs.Words.{word_at}
use Rattle.sp_mps_sections.specs.Fronts.{last_of}
use Rattle.sp_mps_sections.specs.Pairs.{zero}
use Rattle.sp_mps_sections.specs.Rows.{is_free_at}
use Rattle.sp_mps_sections.specs.declared.bounds.ColumnBound.{ColumnBound}
use Rattle.sp_mps_sections.specs.declared.columns.Term.{Term}
use Rattle.sp_mps_sections.specs.declared.indicators.IndicatorRow.{IndicatorRow}
use Rattle.sp_mps_sections.specs.declared.pairs.RowSide.{RowSide}
use Rattle.sp_mps_sections.specs.declared.pairs.RowValue.{RowValue}
use Rattle.sp_mps.specs.declared.reader.Reader.{Reader}

abbrev pub written : Term → WrittenTerm
written t = (t.column, t.value)

-- the terms of the row, in the order of the lines
unfoldable pub row_terms : List Term → ℕ → List WrittenTerm
row_terms terms row = map written (filter (λ (t : Term). t.row == row) terms)

-- the last right-hand side of the row, if it has one
unfoldable pub last_side : List RowSide → ℕ → Option Numeral
last_side sides row = last_of (map (λ (s : RowSide). s.value) (filter (λ (s : RowSide). s.row == row) sides))

-- the last range of the row, if it has one
unfoldable pub last_range : List RowValue → ℕ → Option DecimalFraction
last_range ranges row = last_of (map (λ (r : RowValue). r.value) (filter (λ (r : RowValue). r.row == row) ranges))

-- the last right-hand side of a row, or zero
abbrev pub side_or_zero : Option Numeral → Numeral
side_or_zero None = Exact zero
side_or_zero (Some value) = value

-- what a row of the kind is held to; a row of kind N is at most infinite
abbrev pub sides_for : RowKind → Numeral → Option DecimalFraction → Sides
sides_for Free rhs range = Le (Huge false)
sides_for Less rhs None = Le rhs
sides_for Less rhs (Some range) = Ranged sense.Less rhs range
sides_for Greater rhs None = Ge rhs
sides_for Greater rhs (Some range) = Ranged sense.Greater rhs range
sides_for Equal rhs None = Eq rhs
sides_for Equal rhs (Some range) = Ranged sense.Equal rhs range

-- the row at the place
abbrev pub draft_row : Reader → ℕ → DraftRow
draft_row f row = record {
  terms = row_terms f.columns.terms row;
  sides = sides_for (slice_index_or f.rows.kinds row Free) (side_or_zero (last_side f.sides.sides row))
      (last_range f.ranges.ranges row);
}

-- the row at the place is one of the draft: its kind isn't N, and it is no indicator
abbrev pub is_plain : Reader → ℕ → Bool
is_plain f row = not (is_free_at f.rows.kinds row) && not (is_among f.indicators.names (word_at f.rows.names row))

abbrev pub draft_rows : Reader → List DraftRow
draft_rows f = map (draft_row f) (filter (is_plain f) (range_with_len 0 (length f.rows.names)))

abbrev pub draft_indicator : Reader → IndicatorRow → DraftIndicator
draft_indicator f i = record { var = i.column; on = i.on; row = draft_row f i.row }

-- the terms of the objective
abbrev pub cost_of : Reader → Option ℕ → List WrittenTerm
cost_of f None = []
cost_of f (Some row) = row_terms f.columns.terms row

-- minus the right-hand side of the objective, which is never huge, if it has one
abbrev pub constant_of : Option Numeral → List DecimalFraction
constant_of None = []
constant_of (Some (Exact value)) = opposite value ∷ []
constant_of (Some (Huge negative)) = []

abbrev pub constants_of : Reader → Option ℕ → List DecimalFraction
constants_of f None = []
constants_of f (Some row) = constant_of (last_side f.sides.sides row)

abbrev pub below : Option Numeral
below = Some (Huge true)

abbrev pub above : Option Numeral
above = Some (Huge false)

abbrev pub whole : ℕ → Option Numeral
whole n = Some (Exact (record { p = pos n; s = 0 }))

-- a column with a bound of this kind and value more
abbrev pub with_bound : BoundKind → Numeral → DraftVar → DraftVar
with_bound Upper value v = record v { upper = Some value }
with_bound Lower value v = record v { lower = Some value }
with_bound Fixed value v = record v { lower = Some value; upper = Some value }
with_bound Unbounded value v = record v { lower = below; upper = above }
with_bound NoLower value v = record v { lower = below }
with_bound NoUpper value v = record v { upper = above }
with_bound Binary value v = record v { kind = Integer; lower = whole 0; upper = whole 1 }
with_bound WholeLower value v = record v { kind = Integer; lower = Some value }
with_bound WholeUpper value v = record v { kind = Integer; upper = Some value }
with_bound SemiUpper value v = record v { upper = Some value; semi = true }

-- a column with nothing stated but whether it is integer
abbrev pub plain_var : Bool → DraftVar
plain_var is_integer =
    record { kind = if is_integer then Integer else Continuous; lower = None; upper = None; semi = false }

-- a column before its bounds; one that is integer by markers and has none lies from 0 to 1
abbrev pub first_var : Bool → Bool → DraftVar
first_var true false = record { kind = Integer; lower = whole 0; upper = whole 1; semi = false }
first_var true true = plain_var true
first_var false is_bounded = plain_var false

abbrev pub with_line : DraftVar → ColumnBound → DraftVar
with_line v b = with_bound b.kind b.value v

abbrev pub is_bounded : List ColumnBound → Bool
is_bounded [] = false
is_bounded (b ∷ bs) = true

-- the bounds of the column, in the order of the lines
unfoldable pub bounds_of : List ColumnBound → ℕ → List ColumnBound
bounds_of bounds column = filter (λ (b : ColumnBound). b.column == column) bounds

abbrev pub draft_var : Reader → ℕ → DraftVar
draft_var f column =
    fold with_line
    (first_var (slice_index_or f.columns.integers column false) (is_bounded (bounds_of f.bounds.bounds column)))
    (bounds_of f.bounds.bounds column)

abbrev pub is_maximised : Option Bool → Bool
is_maximised None = false
is_maximised (Some maximize) = maximize

-- the draft that all these facts make
unfoldable pub draft_of : Reader → Draft
draft_of f = record {
  maximize = is_maximised f.direction;
  names = f.columns.names;
  vars = map (draft_var f) (range_with_len 0 (length f.columns.names));
  cost = cost_of f f.rows.objective;
  constants = constants_of f f.rows.objective;
  rows = draft_rows f;
  indicators = map (draft_indicator f) f.indicators.rows;
  sos = [];
}
