-- Rows in whole units: what they become, how wide they are as written, and which of them help to close bounds.
use Rattle.std.specs.Prelude.{ℕ, ◌+◌, max, Bool, not, ◌&&◌, nat_le, if◌then◌else◌, List, [], Option, None, ℤ}
use Rattle.sp_model.specs.declared.parts.Row.{Row}
use Rattle.sp_model.specs.Boxes.{Bounds}
use Rattle.sp_model.specs.Sums.{Term, width_over, side_width}
use Rattle.sp_draft.specs.declared.drafts.DraftRow.{DraftRow}
use Rattle.sp_scaling.specs.Scaling.{greatest_width, most_places_of, numbers_of, scaled, size_of, collected}
use Rattle.sp_lower.specs.Sides.{side_places, lower_side, upper_side}

-- the scale of a row: the most decimal places among its coefficients and the sides that are kept
abbrev pub row_places : DraftRow → ℕ
row_places row = max (most_places_of (numbers_of row.terms)) (side_places row.sides)

-- its terms and its sides in units of that scale
abbrev pub row_terms : DraftRow → List Term
row_terms row = scaled (row_places row) row.terms

abbrev pub row_lower : DraftRow → Option ℤ
row_lower row = lower_side (row_places row) row.sides

abbrev pub row_upper : DraftRow → Option ℤ
row_upper row = upper_side (row_places row) row.sides

-- the row of a model that it becomes
abbrev pub model_row : DraftRow → Row
model_row row = record { terms = collected (row_terms row); lo = row_lower row; hi = row_upper row }

-- its width over a box: each written term counts by itself
abbrev pub written_width : Bounds → DraftRow → ℕ
written_width b row = width_over b (row_terms row) + side_width (row_lower row) + side_width (row_upper row)

-- the row is wider than a model's may be
abbrev pub is_wide : Bounds → DraftRow → Bool
is_wide b row = not (nat_le (written_width b row) greatest_width)

-- the coefficients add up to at most 10^36 in magnitude, and so does each side that is kept; only such a row closes bounds
abbrev pub is_tame : DraftRow → Bool
is_tame row =
    nat_le (size_of (row_terms row)) greatest_width
    && (nat_le (side_width (row_lower row)) greatest_width && nat_le (side_width (row_upper row)) greatest_width)

-- a row that says nothing
abbrev pub no_row : Row
no_row = record { terms = []; lo = None; hi = None }

-- the row as it stands while bounds are closed
abbrev pub closing_row : DraftRow → Row
closing_row row = if is_tame row then model_row row else no_row
