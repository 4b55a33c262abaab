-- What is gathered by row and by column makes the parts of the draft.
use Rattle.std.proofs.Common.{◌≡◌, ℕ, ◌<◌, Bool, false, List, [], length, map, filter, fold, get_or, refl, ap, ◌∙◌, sym, arith}
use Rattle.std.specs.Prelude.{Option, Some, None, IfSome, All, unwrap_or}
use Rattle.std.specs.List.{range_with_len}
use Rattle.std.proofs.lemmas.List.{ext_get_or}
use Rattle.std.proofs.lemmas.List.Elements.{All-filter}
use Rattle.std.proofs.lemmas.List.FromFn.{get_or-map-range_with_len, length-map-range_with_len}
use Rattle.sp_decimal.specs.DecimalFraction.{DecimalFraction}
use Rattle.sp_decimal.specs.declared.numerals.Numeral.{Numeral}
use Rattle.sp_draft.specs.Drafts.{WrittenTerm}
use Rattle.sp_mps_words.specs.declared.kinds.RowKind.TheVariants.{Free}
use Rattle.sp_mps.specs.Drafts.{draft_of, draft_rows, draft_indicator, is_plain, is_maximised, cost_of, constant_of, constants_of, row_terms, last_side, last_range, bounds_of, is_bounded, with_line, first_var, plain_var, draft_var, draft_row, sides_for, side_or_zero}
use Rattle.sp_mps_sections.specs.declared.bounds.ColumnBound.{ColumnBound}
use Rattle.sp_mps.specs.declared.reader.Reader.{Reader}
use Rattle.sp_mps.specs.inner.Tables.{term_table, side_table, range_table, bounded_table, var_table, first_at, row_of, indicator_of, cost_at, constants_at}
use Rattle.sp_mps.specs.inner.Reads.{IsKnown}
use Rattle.sp_mps.specs.inner.Parts.{IsMadeOf, AreRowParts, IsJoined}
use Rattle.sp_mps.specs.declared.drafting.RowParts.{RowParts}
use Rattle.sp_mps_sections.specs.declared.indicators.IndicatorRow.{IndicatorRow}
use Rattle.sp_draft.specs.declared.drafts.Draft.{Draft}
use Rattle.sp_draft.specs.declared.drafts.DraftVar.{DraftVar}
use Rattle.sp_mps.proofs.RowLemmas.{same_on, range_below}

-- two functions that agree below n
same_below : {S : Type 0} (d : S) (f g : ℕ → S) (n : ℕ) → ((i : ℕ) → i < n → f i ≡ g i) → map f (range_with_len 0 n) ≡ map g (range_with_len 0 n)
same_below d f g n h = ext_get_or d _ _ (length-map-range_with_len f 0 n ∙ sym (length-map-range_with_len g 0 n))
    (λ i lt. let l : i < n = omega (arith, lt, length-map-range_with_len f 0 n) in
    get_or-map-range_with_len f 0 n i i d l (omega arith) ∙ (h i l ∙ sym (get_or-map-range_with_len g 0 n i i d l (omega arith))))

bounded_at : (n : ℕ) (bounds : List ColumnBound) (c : ℕ) → c < n → get_or (bounded_table n bounds) c false ≡ is_bounded (bounds_of bounds c)
unfolding bounded_table
bounded_at n bounds c lt = get_or-map-range_with_len (λ k. is_bounded (bounds_of bounds k)) 0 n c c false lt (omega arith)

vars_are : (f : Reader) → var_table (length f.columns.names) (first_at f.columns.integers (bounded_table (length f.columns.names) f.bounds.bounds)) f.bounds.bounds ≡ map (draft_var f) (range_with_len 0 (length f.columns.names))
unfolding var_table
vars_are f = same_below (plain_var false) _ (draft_var f) (length f.columns.names)
    (λ c lt. ap (λ b. fold with_line (first_var (get_or f.columns.integers c false) b) (bounds_of f.bounds.bounds c)) (bounded_at (length f.columns.names) f.bounds.bounds c lt))

-- the variables of the draft
pub vars_made : (f : Reader) (n : ℕ) (integers bounded : List Bool) (bounds : List ColumnBound) → n ≡ length f.columns.names → integers ≡ f.columns.integers → bounds ≡ f.bounds.bounds → bounded ≡ bounded_table n bounds → var_table n (first_at integers bounded) bounds ≡ map (draft_var f) (range_with_len 0 (length f.columns.names))
vars_made f n integers bounded bounds a b c d = rw (d, c, b, a) (vars_are f)

terms_at : (n : ℕ) (f : Reader) (row : ℕ) → row < n → get_or (term_table n f.columns.terms) row [] ≡ row_terms f.columns.terms row
unfolding term_table
terms_at n f row lt = get_or-map-range_with_len (row_terms f.columns.terms) 0 n row row [] lt (omega arith)

side_at : (n : ℕ) (f : Reader) (row : ℕ) → row < n → get_or (side_table n f.sides.sides) row None ≡ last_side f.sides.sides row
unfolding side_table
side_at n f row lt = get_or-map-range_with_len (last_side f.sides.sides) 0 n row row None lt (omega arith)

range_at : (n : ℕ) (f : Reader) (row : ℕ) → row < n → get_or (range_table n f.ranges.ranges) row None ≡ last_range f.ranges.ranges row
unfolding range_table
range_at n f row lt = get_or-map-range_with_len (last_range f.ranges.ranges) 0 n row row None lt (omega arith)

-- the row at a place
pub row_made : (f : Reader) (n row : ℕ) → row < n → row_of f.rows.kinds (term_table n f.columns.terms) (side_table n f.sides.sides) (range_table n f.ranges.ranges) row ≡ draft_row f row
row_made f n row lt = λ i. record {
  terms = terms_at n f row lt i;
  sides = sides_for (get_or f.rows.kinds row Free) (side_or_zero (side_at n f row lt i)) (range_at n f row lt i);
}

maximised : (o : Option Bool) → unwrap_or o false ≡ is_maximised o
maximised None = refl
maximised (Some b) = refl

cost_made : (f : Reader) (n : ℕ) (o : Option ℕ) → IfSome o (λ r. r < n) → cost_at (term_table n f.columns.terms) o ≡ cost_of f o
cost_made f n None h = refl
cost_made f n (Some row) h = terms_at n f row h

constants_made : (f : Reader) (n : ℕ) (o : Option ℕ) → IfSome o (λ r. r < n) → constants_at (side_table n f.sides.sides) o ≡ constants_of f o
constants_made f n None h = refl
constants_made f n (Some row) h = ap constant_of (side_at n f row h)

rows_made : (f : Reader) (n : ℕ) → n ≡ length f.rows.names → map (row_of f.rows.kinds (term_table n f.columns.terms) (side_table n f.sides.sides) (range_table n f.ranges.ranges)) (filter (is_plain f) (range_with_len 0 n)) ≡ draft_rows f
rows_made f n e =
    same_on (row_of f.rows.kinds (term_table n f.columns.terms) (side_table n f.sides.sides) (range_table n f.ranges.ranges)) (draft_row f) (filter (is_plain f) (range_with_len 0 n))
    (λ k d lt. row_made f n (get_or (filter (is_plain f) (range_with_len 0 n)) k d) (All-filter (is_plain f) (λ r. r < n) (range_with_len 0 n) (range_below n) k d lt))
    ∙ ap (λ m. map (draft_row f) (filter (is_plain f) (range_with_len 0 m))) e

indicators_made : (f : Reader) (n : ℕ) → All (λ (i : IndicatorRow). i.row < n) f.indicators.rows → map (indicator_of f.rows.kinds (term_table n f.columns.terms) (side_table n f.sides.sides) (range_table n f.ranges.ranges)) f.indicators.rows ≡ map (draft_indicator f) f.indicators.rows
indicators_made f n h =
    same_on (indicator_of f.rows.kinds (term_table n f.columns.terms) (side_table n f.sides.sides) (range_table n f.ranges.ranges)) (draft_indicator f) f.indicators.rows
    (λ k d lt. of_row (get_or f.indicators.rows k d) (row_made f n (get_or f.indicators.rows k d).row (h k d lt)))
  where
    of_row : (i : IndicatorRow) → row_of f.rows.kinds (term_table n f.columns.terms) (side_table n f.sides.sides) (range_table n f.ranges.ranges) i.row ≡ draft_row f i.row → indicator_of f.rows.kinds (term_table n f.columns.terms) (side_table n f.sides.sides) (range_table n f.ranges.ranges) i ≡ draft_indicator f i
    of_row i e = λ j. record { var = i.column; on = i.on; row = e j }

-- they are those of the draft
pub parts_made : (f : Reader) (terms : List (List WrittenTerm)) (sides : List (Option Numeral)) (ranges : List (Option DecimalFraction)) (p : RowParts) → IsKnown f → terms ≡ term_table (length f.rows.names) f.columns.terms → sides ≡ side_table (length f.rows.names) f.sides.sides → ranges ≡ range_table (length f.rows.names) f.ranges.ranges → IsMadeOf f terms sides ranges p → AreRowParts f p
parts_made f terms sides ranges p k t s r m =
    let n = length f.rows.names in
    record {
      cost = m.cost ∙ (ap (λ x. cost_at x f.rows.objective) t ∙ cost_made f n f.rows.objective k.objective);
      constants = m.constants ∙ (ap (λ x. constants_at x f.rows.objective) s ∙ constants_made f n f.rows.objective k.objective);
      rows = m.rows ∙ (λ i. map (row_of f.rows.kinds (t i) (s i) (r i)) (filter (is_plain f) (range_with_len 0 n))) ∙ rows_made f n refl;
      indicators = m.indicators ∙ ((λ i. map (indicator_of f.rows.kinds (t i) (s i) (r i)) f.indicators.rows) ∙ indicators_made f n (λ j e lt. (k.indicators j e lt).row));
    }

pub draft_made : (f : Reader) (vars : List DraftVar) (p : RowParts) (d : Draft) → vars ≡ map (draft_var f) (range_with_len 0 (length f.columns.names)) → AreRowParts f p → IsJoined f vars p d → d ≡ draft_of f
unfolding draft_of
draft_made f vars p d v a j = λ i. record {
  maximize = (j.maximize ∙ maximised f.direction) i;
  names = j.names i;
  vars = (j.vars_are ∙ v) i;
  cost = (j.cost ∙ a.cost) i;
  constants = (j.constants ∙ a.constants) i;
  rows = (j.rows ∙ a.rows) i;
  indicators = (j.indicators ∙ a.indicators) i;
  sos = j.sos i;
}
