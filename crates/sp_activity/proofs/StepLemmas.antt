-- Kept truths as they are put together, and after a step.
use Rattle.std.proofs.Common.{◌≡◌, ℕ, ◌<◌, List, length, map, get_or, set, sym, ap, ◌∙◌, subst, arith, ℤ}
use Rattle.sp_model.specs.declared.parts.Indicator.{Indicator}
use Rattle.sp_model.specs.declared.parts.ModelParts.{ModelParts}
use Rattle.sp_model.specs.Boxes.{Bounds}
use Rattle.sp_model.specs.Models.{root_of}
use Rattle.sp_sums.specs.Ranges.{IsChange, IsInside}
use Rattle.std.proofs.lemmas.List.{get_or_read, get_or-map}
use Rattle.sp_model.specs.declared.parts.Row.{Row}
use Rattle.sp_sums.specs.declared.spans.Span.{Span}
use Rattle.sp_sums.specs.Extremes.{span_of}
use Rattle.sp_sums.specs.Rows.{IsFirstBroken, RowsOver, bare_row, row_at, with_range}
use Rattle.sp_activity.specs.Reasons.{bare_indicator, indicator_at}
use Rattle.sp_activity.specs.declared.kept.Kept.{Kept}
use Rattle.sp_activity.specs.Kept.{AreUsesOf, IsBrokenOf, IsKeptOf, IsMoved, bounds_of, gates_over, rows_over}
use Rattle.sp_activity.specs.Stages.{IsReady}
use Rattle.sp_activity.proofs.InsideLemmas.{filled_inside}
use Rattle.sp_activity.proofs.ReadyLemmas.{IsFit, NarrowInside, ready_of}

-- all parts over one box
pub put_together : (m : ModelParts) (b : Bounds) (k : Kept) → k.rows ≡ rows_over m b → k.gates ≡ gates_over m b → IsBrokenOf m b k.broken → AreUsesOf m (length (root_of m)) k.uses → IsKeptOf m k
put_together m b k r g h u =
    let same : b ≡ bounds_of k = sym (ap (λ (s : RowsOver). s.bounds) r) in
    record {
      rows = r ∙ ap (rows_over m) same;
      gates = g ∙ ap (gates_over m) same;
      broken = subst (λ (x : Bounds). IsBrokenOf m x k.broken) same h;
      uses = u;
    }

-- what both sums are after a step
pub rows_stepped : (m : ModelParts) (k : Kept) (new : RowsOver) (j : ℕ) (q : ℤ × ℤ) → IsKeptOf m k → new ≡ with_range k.rows j q → new ≡ rows_over m (set (bounds_of k) j q)
rows_stepped m k new j q h e = e ∙ ap (λ (s : RowsOver). with_range s j q) h.rows

pub gates_stepped : (m : ModelParts) (k : Kept) (new : RowsOver) (j : ℕ) (q : ℤ × ℤ) → IsKeptOf m k → new ≡ with_range k.gates j q → new ≡ gates_over m (set (bounds_of k) j q)
gates_stepped m k new j q h e = e ∙ ap (λ (s : RowsOver). with_range s j q) h.gates

-- what the truths need after it
pub record IsStepped (m : ModelParts) (k : Kept) (gates : RowsOver) (j : ℕ) (q : ℤ × ℤ) : Type 0 where
  pub ready : IsReady m gates.bounds
  pub rows : gates.rows ≡ map (λ (i : Indicator). i.row) m.indicators
  pub uses : AreUsesOf m (length gates.bounds) k.uses
  pub known : j < length gates.bounds
  pub moved : IsMoved m k.broken j q gates.bounds

pub stepped : (m : ModelParts) (k : Kept) (gates : RowsOver) (j : ℕ) (q : ℤ × ℤ) → NarrowInside → IsFit m → IsKeptOf m k → IsChange (root_of m) j q → gates ≡ with_range k.gates j q → IsInside gates.root gates.bounds → IsStepped m k gates j q
stepped m k gates j q n f h c e i =
    let over : gates ≡ gates_over m (set (bounds_of k) j q) = gates_stepped m k gates j q h e in
    let root : gates.root ≡ root_of m = ap (λ (s : RowsOver). s.root) over in
    let inside : IsInside (root_of m) gates.bounds = subst (λ (b : Bounds). IsInside b gates.bounds) root i in
    let long : length (root_of m) ≡ length gates.bounds = sym inside.long in
    record {
      ready = ready_of m gates.bounds n f (filled_inside (root_of m) gates.bounds inside) inside;
      rows = ap (λ (s : RowsOver). s.rows) over;
      uses = subst (λ (l : ℕ). AreUsesOf m l k.uses) long h.uses;
      known = omega (arith, c.known, long);
      moved = record { before = bounds_of k; was = h.broken; moved = ap (λ (s : RowsOver). s.bounds) over };
    }

-- and the box in hand is ready
pub kept_ready : (m : ModelParts) (k : Kept) → NarrowInside → IsFit m → IsKeptOf m k → IsInside k.rows.root k.rows.bounds → IsReady m (bounds_of k)
kept_ready m k n f h i =
    let root : k.rows.root ≡ root_of m = ap (λ (s : RowsOver). s.root) h.rows in
    let inside : IsInside (root_of m) (bounds_of k) = subst (λ (b : Bounds). IsInside b (bounds_of k)) root i in
    ready_of m (bounds_of k) n f (filled_inside (root_of m) (bounds_of k) inside) inside

-- ---- what kept sums say of the items

pub row_kept_first : (m : ModelParts) (k : Kept) (i : ℕ) → IsKeptOf m k → IsFirstBroken k.rows.bounds k.rows.rows i → IsFirstBroken (bounds_of k) m.rows i
row_kept_first m k i h f = subst (λ (rows : List Row). IsFirstBroken (bounds_of k) rows i) (ap (λ (s : RowsOver). s.rows) h.rows) f

pub row_span : (m : ModelParts) (k : Kept) (i : ℕ) (rows : List Row) (row : Row) (span : Span) → IsKeptOf m k → rows ≡ m.rows → row ≡ get_or rows i row → i < length m.rows → span ≡ span_of k.rows.bounds (row_at k.rows.rows i) → span ≡ span_of (bounds_of k) row
row_span m k i rows row span h e r l s =
    let inside : i < length rows = omega (arith, ap length e) in
    let same : row ≡ row_at m.rows i = get_or_read rows i row inside r bare_row ∙ ap (λ (xs : List Row). row_at xs i) e in
    s ∙ ap (λ (xs : List Row). span_of (bounds_of k) (row_at xs i)) (ap (λ (x : RowsOver). x.rows) h.rows) ∙ ap (span_of (bounds_of k)) (sym same)

pub gate_span : (m : ModelParts) (k : Kept) (n : ℕ) (is : List Indicator) (i : Indicator) (span : Span) → IsKeptOf m k → is ≡ m.indicators → i ≡ get_or is n i → n < length m.indicators → span ≡ span_of k.gates.bounds (row_at k.gates.rows n) → span ≡ span_of (bounds_of k) i.row
gate_span m k n is i span h e r l s =
    let inside : n < length is = omega (arith, ap length e) in
    let same : i ≡ indicator_at m.indicators n = get_or_read is n i inside r bare_indicator ∙ ap (λ (xs : List Indicator). indicator_at xs n) e in
    let over : span_of k.gates.bounds (row_at k.gates.rows n) ≡ span_of (bounds_of k) (row_at (map (λ (x : Indicator). x.row) m.indicators) n) = ap (λ (x : RowsOver). span_of x.bounds (row_at x.rows n)) h.gates in
    s ∙ over ∙ ap (span_of (bounds_of k)) (get_or-map (λ (x : Indicator). x.row) m.indicators n bare_indicator bare_row l) ∙ ap (λ (x : Indicator). span_of (bounds_of k) x.row) (sym same)
