-- The next line's part in what is gathered by row and by column.
use Rattle.std.proofs.Common.{◌≡◌, ℕ, ◌+◌, ◌-◌, ◌<◌, Bool, true, false, List, [], ◌∷◌, ◌++◌, length, map, fold, get_or, set, take, refl, ap, ◌∙◌, arith}
use Rattle.std.specs.Prelude.{Option, Some, None}
use Rattle.std.specs.List.{slice_get}
use Rattle.std.proofs.lemmas.List.{map-append, length-append}
use Rattle.std.proofs.lemmas.List.Sums.{fold_push}
use Rattle.sp_decimal.specs.DecimalFraction.{DecimalFraction}
use Rattle.sp_decimal.specs.declared.numerals.Numeral.{Numeral}
use Rattle.sp_draft.specs.Drafts.{WrittenTerm}
use Rattle.sp_draft.specs.declared.drafts.DraftVar.{DraftVar}
use Rattle.sp_mps_sections.specs.Fronts.{last_of}
use Rattle.sp_mps.specs.Drafts.{written, row_terms, last_side, last_range, bounds_of, is_bounded, with_line}
use Rattle.sp_mps_sections.specs.declared.bounds.ColumnBound.{ColumnBound}
use Rattle.sp_mps_sections.specs.declared.columns.Term.{Term}
use Rattle.sp_mps_sections.specs.declared.pairs.RowSide.{RowSide}
use Rattle.sp_mps_sections.specs.declared.pairs.RowValue.{RowValue}
use Rattle.sp_mps.specs.inner.Tables.{term_table, side_table, range_table, bounded_table, var_table}
use Rattle.sp_mps.proofs.TableLemmas.{next}

pub term_next : (count i : ℕ) (terms : List Term) (t : Term) (now : List (List WrittenTerm)) → i < length terms → get_or terms i t ≡ t → now ≡ term_table count (take i terms) → set now t.row (get_or now t.row [] ++ written t ∷ []) ≡ term_table count (take (i + 1) terms)
unfolding term_table row_terms
term_next count i terms t now lt e h = next count (λ (x : Term). x.row) (λ r xs. map written xs) (λ s x. s ++ written x ∷ []) [] (λ r xs x. map-append written xs (x ∷ [])) terms i t now lt e h

at_end : {X : Type 0} (xs : List X) (x : X) → slice_get (xs ++ x ∷ []) (length xs) ≡ Some x
at_end [] x = refl
at_end (y ∷ xs) x = at_end xs x

last_pushed : {X : Type 0} (xs : List X) (x : X) → last_of (xs ++ x ∷ []) ≡ Some x
last_pushed xs x =
    let e : length (xs ++ x ∷ []) - 1 ≡ length xs = omega (arith, length-append xs (x ∷ [])) in
    ap (slice_get (xs ++ x ∷ [])) e ∙ at_end xs x

pub side_next : (count i : ℕ) (sides : List RowSide) (t : RowSide) (now : List (Option Numeral)) → i < length sides → get_or sides i t ≡ t → now ≡ side_table count (take i sides) → set now t.row (Some t.value) ≡ side_table count (take (i + 1) sides)
unfolding side_table last_side
side_next count i sides t now lt e h = next count (λ (x : RowSide). x.row) (λ r xs. last_of (map (λ (x : RowSide). x.value) xs)) (λ s x. Some x.value) None (λ r xs x. ap last_of (map-append (λ (y : RowSide). y.value) xs (x ∷ [])) ∙ last_pushed (map (λ (y : RowSide). y.value) xs) x.value) sides i t now lt e h

pub range_next : (count i : ℕ) (ranges : List RowValue) (t : RowValue) (now : List (Option DecimalFraction)) → i < length ranges → get_or ranges i t ≡ t → now ≡ range_table count (take i ranges) → set now t.row (Some t.value) ≡ range_table count (take (i + 1) ranges)
unfolding range_table last_range
range_next count i ranges t now lt e h = next count (λ (x : RowValue). x.row) (λ r xs. last_of (map (λ (x : RowValue). x.value) xs)) (λ s x. Some x.value) None (λ r xs x. ap last_of (map-append (λ (y : RowValue). y.value) xs (x ∷ [])) ∙ last_pushed (map (λ (y : RowValue). y.value) xs) x.value) ranges i t now lt e h

bounded_pushed : (xs : List ColumnBound) (x : ColumnBound) → is_bounded (xs ++ x ∷ []) ≡ true
bounded_pushed [] x = refl
bounded_pushed (y ∷ xs) x = refl

pub bounded_next : (count i : ℕ) (bounds : List ColumnBound) (t : ColumnBound) (now : List Bool) → i < length bounds → get_or bounds i t ≡ t → now ≡ bounded_table count (take i bounds) → set now t.column true ≡ bounded_table count (take (i + 1) bounds)
unfolding bounded_table bounds_of
bounded_next count i bounds t now lt e h = next count (λ (x : ColumnBound). x.column) (λ r xs. is_bounded xs) (λ s x. true) false (λ r xs x. bounded_pushed xs x) bounds i t now lt e h

pub var_next : (count : ℕ) (first : ℕ → DraftVar) (d : DraftVar) (i : ℕ) (bounds : List ColumnBound) (t : ColumnBound) (now : List DraftVar) → i < length bounds → get_or bounds i t ≡ t → now ≡ var_table count first (take i bounds) → set now t.column (with_line (get_or now t.column d) t) ≡ var_table count first (take (i + 1) bounds)
unfolding var_table bounds_of
var_next count first d i bounds t now lt e h = next count (λ (x : ColumnBound). x.column) (λ r xs. fold with_line (first r) xs) with_line d (λ r xs x. fold_push with_line (first r) xs x) bounds i t now lt e h
