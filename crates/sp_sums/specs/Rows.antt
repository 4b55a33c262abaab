-- What kept sums are seen as: a list of rows over a box within a root box.
use Rattle.std.specs.Prelude.{◌≡◌, ℕ, ◌<◌, ◌≤◌, true, false, List, [], length, slice_index_or, slice_set, All, AllPairs, Option, None, ℤ}
use Rattle.sp_model.specs.declared.parts.Row.{Row}
use Rattle.sp_model.specs.Boxes.{Bounds}
use Rattle.sp_sums.specs.Extremes.{AreTermsNarrow, is_broken_over}

-- the rows, the box that all others lie in, and the box that the sums are taken over
pub record RowsOver : Type 0 where
  pub root : Bounds
  pub bounds : Bounds
  pub rows : List Row

-- terms of rising variables that are the root's, whose sum stays within 10^36 there
pub record IsRowFit (root : Bounds) (row : Row) : Type 0 where
  pub narrow : AreTermsNarrow root row.terms
  pub rising : AllPairs (λ t u. t.0 < u.0) row.terms

-- at most 10,000 rows, and each of them is fit
pub record AreRowsFit (root : Bounds) (rows : List Row) : Type 0 where
  pub few : length rows ≤ 10000
  pub each : All (IsRowFit root) rows

-- a row without terms and sides
abbrev pub bare_row : Row
bare_row = record { terms = []; lo = None; hi = None }

-- the row at a place, the bare one past the last
abbrev pub row_at : List Row → ℕ → Row
row_at rows k = slice_index_or rows k bare_row

-- the box with another range of one variable
abbrev pub with_range : RowsOver → ℕ → ℤ × ℤ → RowsOver
with_range s j r = record s { bounds = slice_set s.bounds j r }

-- the rows with another greatest side of one
abbrev pub with_upper : RowsOver → ℕ → Option ℤ → RowsOver
with_upper s k side = record s { rows = slice_set s.rows k (record (row_at s.rows k) { hi = side }) }

-- the row is one of the rows, and broken over the box
pub record IsBrokenAt (b : Bounds) (rows : List Row) (k : ℕ) : Type 0 where
  pub known : k < length rows
  pub broken : is_broken_over b (row_at rows k) ≡ true

-- and none before it is
pub record IsFirstBroken (b : Bounds) (rows : List Row) (k : ℕ) : Type 0 where
  pub here : IsBrokenAt b rows k
  pub before : (i : ℕ) → i < k → is_broken_over b (row_at rows i) ≡ false

-- no row is broken over the box
pub record AreUnbroken (b : Bounds) (rows : List Row) : Type 0 where
  pub each : (k : ℕ) → k < length rows → is_broken_over b (row_at rows k) ≡ false

-- a row that isn't broken over the old box isn't over the new one
pub record NoMoreBroken (rows : List Row) (old new : Bounds) : Type 0 where
  pub each : (k : ℕ) → k < length rows → is_broken_over old (row_at rows k) ≡ false → is_broken_over new (row_at rows k) ≡ false
