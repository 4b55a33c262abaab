use Rattle.std.proofs.Common.{◌≡◌, ◌≤◌, ℕ, [], map, filter, get_or}
use Rattle.std.specs.List.{range_with_len}
use Rattle.sp_mps.specs.Drafts.{is_plain}
use Rattle.sp_mps.specs.inner.Tables.{row_of}
use Rattle.sp_mps.proofs.drafting.rows.Given as goal

abbrev pub invariant-loop-row : goal.invariant-loop-row
invariant-loop-row l = record {
  made : l.made.items ≡ map (row_of l.reader.rows.kinds l.fn.tables.terms.items l.sides.items l.ranges.items) (filter (is_plain l.reader) (range_with_len 0 l.row));
  left : (k : ℕ) → l.row ≤ k → get_or l.terms.items k [] ≡ get_or l.fn.tables.terms.items k [];
}
