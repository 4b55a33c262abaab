-- What only private functions speak of: a change of one entry, spans with their marks, columns as they are kept.
use Rattle.std.specs.Prelude.{◌≡◌, ℕ, ◌*◌, ◌^◌, ◌<◌, ◌≤◌, Bool, List, [], ◌∷◌, ◌++◌, length, map, slice_index_or, ℤ, pos, ◌+ℤ◌, ◌-ℤ◌, ◌*ℤ◌, unsigned_abs}
use Rattle.sp_model.specs.declared.parts.Row.{Row}
use Rattle.sp_model.specs.Boxes.{Bounds}
use Rattle.sp_model.specs.Sums.{Term}
use Rattle.sp_sums.specs.declared.spans.Span.{Span}
use Rattle.sp_sums.specs.Columns.{Entry, entries_of, column_of}
use Rattle.sp_sums.specs.Extremes.{term_least, term_most, span_of, is_broken}
use Rattle.sp_sums.specs.Ranges.{IsInside, IsChange}
use Rattle.sp_sums.specs.Rows.{AreRowsFit}

-- the span of no terms
abbrev pub zero_span : Span
zero_span = record { least = pos 0; most = pos 0 }

abbrev pub span_at : List Span → ℕ → Span
span_at ss k = slice_index_or ss k zero_span

-- the span with one term more
abbrev pub with_term : Span → ℤ → ℤ × ℤ → Span
with_term s a r = record { least = s.least +ℤ term_least a r; most = s.most +ℤ term_most a r }

-- the span after the range of one of the coefficients went from r to q
abbrev pub moved : Span → ℤ → ℤ × ℤ → ℤ × ℤ → Span
moved s a r q = record {
  least = s.least +ℤ (term_least a q -ℤ term_least a r);
  most = s.most +ℤ (term_most a q -ℤ term_most a r);
}

-- whether each row is broken between its sums
abbrev pub marks : List Row → List Span → List Bool
marks [] ss = []
marks (row ∷ rows) [] = []
marks (row ∷ rows) (s ∷ ss) = is_broken row s ∷ marks rows ss

abbrev pub column_at : List (List Entry) → ℕ → List Entry
column_at cols j = slice_index_or cols j []

-- the entries of each of so many variables
pub record AreColumns (count : ℕ) (rows : List Row) (cols : List (List Entry)) : Type 0 where
  pub long : length cols ≡ count
  pub each : (j : ℕ) → j < count → column_at cols j ≡ column_of j rows

-- a row's terms came to the end of the columns
pub record WithRow (k : ℕ) (ts : List Term) (old new : List (List Entry)) : Type 0 where
  pub long : length new ≡ length old
  pub each : (j : ℕ) → j < length old → column_at new j ≡ column_at old j ++ entries_of j k ts

-- the term's values at both ends of the range have a magnitude of at most 10^36
pub record IsTermSmall (a : ℤ) (r : ℤ × ℤ) : Type 0 where
  pub lower : unsigned_abs (a *ℤ r.0) ≤ 10 ^ 36
  pub upper : unsigned_abs (a *ℤ r.1) ≤ 10 ^ 36

-- both sums have a magnitude of at most 3 * 10^36
pub record IsSpanSmall (s : Span) : Type 0 where
  pub least : unsigned_abs s.least ≤ 3 * 10 ^ 36
  pub most : unsigned_abs s.most ≤ 3 * 10 ^ 36

-- fit rows over a box inside the root, one of whose ranges may become q
pub record IsMove (root b : Bounds) (rows : List Row) (j : ℕ) (q : ℤ × ℤ) : Type 0 where
  pub fit : AreRowsFit root rows
  pub inside : IsInside root b
  pub change : IsChange root j q

-- what the move of one entry's row needs, of n rows
pub record IsNext (r q : ℤ × ℤ) (n : ℕ) (e : Entry) (ss : List Span) : Type 0 where
  pub known : e.0 < n
  pub small : IsSpanSmall (span_at ss e.0)
  pub from : IsTermSmall e.1 r
  pub to : IsTermSmall e.1 q

-- spans and marks of these rows over this box
pub record IsTally (b : Bounds) (rows : List Row) (ss : List Span) (bits : List Bool) : Type 0 where
  pub spans : ss ≡ map (span_of b) rows
  pub marked : bits ≡ marks rows ss

-- what is kept of the rows over the box
pub record IsKept (root b : Bounds) (rows : List Row) (cols : List (List Entry)) (ss : List Span) (bits : List Bool) : Type 0 where
  pub fit : AreRowsFit root rows
  pub inside : IsInside root b
  pub columns : AreColumns (length root) rows cols
  pub tally : IsTally b rows ss bits
