-- The draft speaks of its variables alone.
use Rattle.std.proofs.Common.{ℕ, ◌<◌, length, filter, ◌==◌, get_or, arith}
use Rattle.std.specs.Prelude.{Option, Some, None}
use Rattle.std.specs.List.{range_with_len}
use Rattle.std.proofs.lemmas.List.Elements.{All-map, All-filter}
use Rattle.std.proofs.lemmas.List.FromFn.{length-map-range_with_len}
use Rattle.sp_draft.specs.Drafts.{WrittenTerm, AreKnown, IsKnownIndicator, IsWellFormed}
use Rattle.sp_draft.specs.declared.drafts.DraftRow.{DraftRow}
use Rattle.sp_mps.specs.Drafts.{written, row_terms, draft_var, draft_row, is_plain, draft_indicator, cost_of, draft_of}
use Rattle.sp_mps_sections.specs.declared.columns.Term.{Term}
use Rattle.sp_mps.specs.declared.reader.Reader.{Reader}
use Rattle.sp_mps.specs.inner.Reads.{IsKnown}

known_terms : (f : Reader) → IsKnown f → (row : ℕ) → AreKnown (length f.columns.names) (row_terms f.columns.terms row)
unfolding row_terms
known_terms f k row =
    All-map (λ (t : WrittenTerm). t.0 < length f.columns.names) written (filter (λ (t : Term). t.row == row) f.columns.terms)
    (All-filter (λ (t : Term). t.row == row) (λ (t : Term). t.column < length f.columns.names) f.columns.terms k.terms)

known_cost : (f : Reader) → IsKnown f → (o : Option ℕ) → AreKnown (length f.columns.names) (cost_of f o)
known_cost f k None = λ i d lt. absurd (omega arith)
known_cost f k (Some row) = known_terms f k row

pub well_formed : (f : Reader) → IsKnown f → IsWellFormed (draft_of f)
unfolding draft_of
well_formed f k = record {
  paired = length-map-range_with_len (draft_var f) 0 (length f.columns.names);
  cost = known_cost f k f.rows.objective;
  rows = All-map (λ (r : DraftRow). AreKnown (length f.columns.names) r.terms) (draft_row f) (filter (is_plain f) (range_with_len 0 (length f.rows.names)))
      (λ i d lt. known_terms f k (get_or (filter (is_plain f) (range_with_len 0 (length f.rows.names))) i d));
  indicators = All-map (IsKnownIndicator (length f.columns.names)) (draft_indicator f) f.indicators.rows
      (λ i d lt. record { var = (k.indicators i d lt).column; terms = known_terms f k (get_or f.indicators.rows i d).row });
  sos = λ i d lt. absurd (omega arith);
}
