-- A change that is only asked for: what it would make of the rows of a column.
use Rattle.std.proofs.Common.{◌≡◌, ℕ, ◌<◌, false, List, [], ◌∷◌, length, map, get_or, set, ℤ, refl, sym, ap, ◌∙◌, All, Contains}
use Rattle.std.proofs.lemmas.List.Elements.{All-contains}
use Rattle.sp_model.specs.declared.parts.Row.{Row}
use Rattle.sp_model.specs.Boxes.{Bounds, range_at}
use Rattle.sp_model.specs.Sums.{reach}
use Rattle.sp_sums.specs.declared.spans.Span.{Span}
use Rattle.sp_sums.specs.Columns.{Entry, column_of}
use Rattle.sp_sums.specs.Extremes.{span_of, is_broken, is_broken_over}
use Rattle.sp_sums.specs.Inner.{IsMove, IsNext, moved, span_at}
use Rattle.sp_sums.specs.Rows.{NoMoreBroken, row_at}
use Rattle.sp_sums.proofs.LawLemmas.{single_entry, contains_term}
use Rattle.sp_sums.proofs.MemberLemmas.{All-at, Contains-here}
use Rattle.sp_sums.proofs.MoveLemmas.{IsMoving, IsPending, moving_start, next_from_row, pending_turn, pending_stop, span_in}
use Rattle.sp_sums.proofs.SpanLemmas.{coefficients}

-- a row's span with the new range, where the variable stands in it once
pub asked_span : (root b : Bounds) (rows : List Row) (ss : List Span) (j : ℕ) (q : ℤ × ℤ) (i : ℕ) (e : Entry) → ss ≡ map (span_of b) rows → IsMove root b rows j q → i < length (column_of j rows) → e ≡ get_or (column_of j rows) i e → moved (span_at ss e.0) e.1 (range_at b j) q ≡ span_of (set b j q) (row_at rows e.0)
asked_span root b rows ss j q i e k v h g =
    let start : IsMoving root b rows j q (column_of j rows) ss = moving_start root b rows j q (column_of j rows) ss v refl k in
    let known : e.0 < length rows = All-at (λ (f : Entry). f.0 < length rows) (column_of j rows) i e h g start.known in
    let here = start.each e.0 known in
    let one : IsPending (range_at b j) q (reach (range_at root j)) (e.1 ∷ []) (span_at ss e.0) (span_of (set b j q) (row_at rows e.0)) = rw (single_entry root rows j i e v.fit h g) at here in
    pending_stop (range_at b j) q (reach (range_at root j)) (moved (span_at ss e.0) e.1 (range_at b j) q) (span_of (set b j q) (row_at rows e.0))
    (pending_turn (range_at b j) q (reach (range_at root j)) e.1 [] (span_at ss e.0) (span_of (set b j q) (row_at rows e.0)) one)

-- what the code needs for it
pub asked_next : (root b : Bounds) (rows : List Row) (ss : List Span) (j : ℕ) (q : ℤ × ℤ) (i : ℕ) (e : Entry) → ss ≡ map (span_of b) rows → IsMove root b rows j q → i < length (column_of j rows) → e ≡ get_or (column_of j rows) i e → IsNext (range_at b j) q (length rows) e ss
asked_next root b rows ss j q i e k v h g =
    let start : IsMoving root b rows j q (column_of j rows) ss = moving_start root b rows j q (column_of j rows) ss v refl k in
    let known : e.0 < length rows = All-at (λ (f : Entry). f.0 < length rows) (column_of j rows) i e h g start.known in
    next_from_row root b rows j q e [] ss v known (rw (single_entry root rows j i e v.fit h g) at (start.each e.0 known))

-- both, at the entry that was read
pub record IsAsked (root b : Bounds) (rows : List Row) (ss : List Span) (j : ℕ) (q : ℤ × ℤ) (e : Entry) : Type 0 where
  pub known : e.0 < length rows
  pub next : IsNext (range_at b j) q (length rows) e ss
  pub broken : is_broken (row_at rows e.0) (moved (span_at ss e.0) e.1 (range_at b j) q) ≡ is_broken_over (set b j q) (row_at rows e.0)

pub asked : (root b : Bounds) (rows : List Row) (ss : List Span) (j : ℕ) (q : ℤ × ℤ) (column : List Entry) (i : ℕ) (e : Entry) → ss ≡ map (span_of b) rows → IsMove root b rows j q → column ≡ column_of j rows → i < length column → e ≡ get_or column i e → IsAsked root b rows ss j q e
asked root b rows ss j q column i e k v s h g =
    let h2 : i < length (column_of j rows) = rw s at h in
    let g2 : e ≡ get_or (column_of j rows) i e = rw s at g in
    let next = asked_next root b rows ss j q i e k v h2 g2 in
    record { known = next.known; next = next; broken = ap (is_broken (row_at rows e.0)) (asked_span root b rows ss j q i e k v h2 g2) }

-- no entry's row is broken by it: then no row is that wasn't before
untouched : (root b : Bounds) (rows : List Row) (ss : List Span) (j : ℕ) (q : ℤ × ℤ) (k : ℕ) (cs : List ℤ) → coefficients k (column_of j rows) ≡ cs → ss ≡ map (span_of b) rows → IsMove root b rows j q → k < length rows → All (λ (e : Entry). is_broken_over (set b j q) (row_at rows e.0) ≡ false) (column_of j rows) → is_broken_over b (row_at rows k) ≡ false → is_broken_over (set b j q) (row_at rows k) ≡ false
untouched root b rows ss j q k [] e t v h all old =
    let start : IsMoving root b rows j q (column_of j rows) ss = moving_start root b rows j q (column_of j rows) ss v refl t in
    let here = start.each k h in
    let none : IsPending (range_at b j) q (reach (range_at root j)) [] (span_at ss k) (span_of (set b j q) (row_at rows k)) = rw e at here in
    let same : span_at ss k ≡ span_of (set b j q) (row_at rows k) = pending_stop (range_at b j) q (reach (range_at root j)) (span_at ss k) (span_of (set b j q) (row_at rows k)) none in
    let was : span_at ss k ≡ span_of b (row_at rows k) = rw t (span_in b rows k h) in
    ap (is_broken (row_at rows k)) (sym same ∙ was) ∙ old
untouched root b rows ss j q k (c ∷ cs) e t v h all old =
    let inner : Contains (coefficients k (column_of j rows)) c = rw e (Contains-here c cs) in
    All-contains (λ (f : Entry). is_broken_over (set b j q) (row_at rows f.0) ≡ false) (column_of j rows) (k, c) all (contains_term k c (column_of j rows) inner)

pub no_more : (root b : Bounds) (rows : List Row) (ss : List Span) (j : ℕ) (q : ℤ × ℤ) → ss ≡ map (span_of b) rows → IsMove root b rows j q → All (λ (e : Entry). is_broken_over (set b j q) (row_at rows e.0) ≡ false) (column_of j rows) → NoMoreBroken rows b (set b j q)
no_more root b rows ss j q t v all = record { each = λ k h old. untouched root b rows ss j q k (coefficients k (column_of j rows)) refl t v h all old }
