-- A row with another greatest side: its terms are as before, and so are columns and sums.
use Rattle.std.proofs.Common.{◌≡◌, ℕ, zero, suc, ◌<◌, Bool, List, [], ◌∷◌, ◌++◌, length, map, get_or, set, All, AllPairs, refl, sym, ap, subst, ◌∙◌, arith, get_or-set_same, not-suc-le-zero, le_of_suc-le-suc}
use Rattle.std.proofs.lemmas.List.{get_or_read, length-map, length-set}
use Rattle.sp_model.specs.declared.parts.Row.{Row}
use Rattle.sp_model.specs.Boxes.{Bounds}
use Rattle.sp_sums.specs.declared.spans.Span.{Span}
use Rattle.sp_sums.specs.Columns.{Entry, entries_of, column_from}
use Rattle.sp_model.specs.Sums.{Term}
use Rattle.sp_sums.specs.Extremes.{AreTermsNarrow, is_broken, span_of, span_over}
use Rattle.sp_sums.specs.Inner.{IsKept, marks, span_at}
use Rattle.sp_sums.specs.Rows.{IsRowFit, bare_row, row_at}

pub columns-upper : (j n k : ℕ) (rows : List Row) (r : Row) → r.terms ≡ (row_at rows k).terms → column_from j n (set rows k r) ≡ column_from j n rows
columns-upper j n k [] r e = refl
columns-upper j n zero (row ∷ rows) r e = ap (λ ts. entries_of j n ts ++ column_from j (suc n) rows) e
columns-upper j n (suc k) (row ∷ rows) r e = ap (λ (es : List Entry). entries_of j n row.terms ++ es) (columns-upper j (suc n) k rows r e)

pub spans-upper : (b : Bounds) (k : ℕ) (rows : List Row) (r : Row) → r.terms ≡ (row_at rows k).terms → map (span_of b) (set rows k r) ≡ map (span_of b) rows
spans-upper b k [] r e = refl
spans-upper b zero (row ∷ rows) r e = ap (λ ts. span_over b ts ∷ map (span_of b) rows) e
spans-upper b (suc k) (row ∷ rows) r e = ap (λ (ss : List Span). span_of b row ∷ ss) (spans-upper b k rows r e)

pub marks-upper : (rows : List Row) (ss : List Span) (k : ℕ) (r : Row) → k < length rows → length ss ≡ length rows → marks (set rows k r) ss ≡ set (marks rows ss) k (is_broken r (span_at ss k))
marks-upper [] ss k r h e = absurd (not-suc-le-zero h)
marks-upper (row ∷ rows) [] k r h e = absurd (omega (arith, e))
marks-upper (row ∷ rows) (s ∷ ss) zero r h e = refl
marks-upper (row ∷ rows) (s ∷ ss) (suc k) r h e = let g : length ss ≡ length rows = omega (arith, e) in ap (λ (bs : List Bool). is_broken row s ∷ bs) (marks-upper rows ss k r (le_of_suc-le-suc h) g)

all_set : {X : Type 0} (P : X → Type 0) (xs : List X) (k : ℕ) (x : X) → P x → All P xs → All P (set xs k x)
all_set P [] k x p h i d l = absurd (not-suc-le-zero l)
all_set P (y ∷ ys) zero x p h zero d l = p
all_set P (y ∷ ys) zero x p h (suc i) d l = h (suc i) d (omega arith)
all_set P (y ∷ ys) (suc k) x p h zero d l = h zero d (omega arith)
all_set P (y ∷ ys) (suc k) x p h (suc i) d l = all_set P ys k x p (λ n f m. h (suc n) f (omega arith)) i d (omega arith)

-- what is kept stays kept
pub kept_upper : (root b : Bounds) (rows : List Row) (cols : List (List Entry)) (ss : List Span) (bits : List Bool) (k : ℕ) (r : Row) → IsKept root b rows cols ss bits → k < length rows → r.terms ≡ (row_at rows k).terms → length ss ≡ length rows → IsKept root b (set rows k r) cols ss (set bits k (is_broken r (span_at ss k)))
kept_upper root b rows cols ss bits k r kept h e long =
    let old : IsRowFit root (row_at rows k) = kept.fit.each k bare_row h in
    let fit : IsRowFit root r = record {
      narrow = subst (λ (ts : List Term). AreTermsNarrow root ts) (sym e) old.narrow;
      rising = subst (λ (ts : List Term). AllPairs (λ (t : Term) (u : Term). t.0 < u.0) ts) (sym e) old.rising;
    } in
    record {
      fit = record { few = omega (arith, length-set rows k r, kept.fit.few); each = all_set (IsRowFit root) rows k r fit kept.fit.each };
      inside = kept.inside;
      columns = record { long = kept.columns.long; each = λ j l. kept.columns.each j l ∙ sym (columns-upper j 0 k rows r e) };
      tally = record {
        spans = kept.tally.spans ∙ sym (spans-upper b k rows r e);
        marked = ap (λ (bs : List Bool). set bs k (is_broken r (span_at ss k))) kept.tally.marked ∙ sym (marks-upper rows ss k r h long);
      };
    }

-- the same as the code puts it
pub put_upper : (root b : Bounds) (rows : List Row) (cols : List (List Entry)) (ss : List Span) (bits new : List Bool) (k : ℕ) (old r read : Row) (bit : Bool) → IsKept root b rows cols ss bits → k < length rows → old ≡ get_or rows k old → r.terms ≡ old.terms → read ≡ get_or (set rows k r) k read → bit ≡ is_broken read (span_at ss k) → new ≡ set bits k bit → IsKept root b (set rows k r) cols ss new
put_upper root b rows cols ss bits new k old r read bit kept h o e g t n =
    let terms : r.terms ≡ (row_at rows k).terms = e ∙ ap (λ (x : Row). x.terms) (get_or_read rows k old h o bare_row) in
    let same : read ≡ r = g ∙ get_or-set_same rows k r read h in
    let long : length ss ≡ length rows = ap length kept.tally.spans ∙ length-map rows (span_of b) in
    let bits_are : new ≡ set bits k (is_broken r (span_at ss k)) = n ∙ ap (set bits k) (t ∙ ap (λ (x : Row). is_broken x (span_at ss k)) same) in
    rw bits_are (kept_upper root b rows cols ss bits k r kept h terms long)
