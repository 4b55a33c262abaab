-- One variable's range goes to another: the spans row after row, by the entries that are left.
use Rattle.std.proofs.Common.{◌≡◌, ◌≢◌, ℕ, zero, suc, ◌+◌, ◌*◌, ◌^◌, ◌<◌, ◌≤◌, Bool, true, false, cond, nat_eq, List, [], ◌∷◌, length, map, get_or, set, drop, ℤ, pos, ◌+ℤ◌, ◌*ℤ◌, All, refl, sym, ap, ap₂, ◌∙◌, arith, get_or-set_same, get_or-set_other}
use Rattle.std.proofs.Math.Nat.{mul-le-mul_left}
use Rattle.std.proofs.lemmas.Int.{ints, unsigned_abs-mul}
use Rattle.std.proofs.lemmas.List.{length-set, length-map, same_lists, get_or_default, drop_more}
use Rattle.std.specs.Int.RustNames.{unsigned_abs}
use Rattle.sp_model.specs.declared.parts.Row.{Row}
use Rattle.sp_model.specs.Boxes.{Bounds, range_at}
use Rattle.sp_model.specs.Sums.{reach, width_over}
use Rattle.sp_sums.specs.declared.spans.Span.{Span}
use Rattle.sp_sums.specs.Columns.{Entry, column_of}
use Rattle.sp_sums.specs.Extremes.{term_least, term_most, span_of}
use Rattle.sp_sums.specs.Inner.{moved, zero_span, span_at, IsMove, IsNext, IsTermSmall, IsSpanSmall}
use Rattle.sp_sums.specs.Rows.{AreRowsFit, IsRowFit, bare_row, row_at}
use Rattle.sp_sums.specs.Ranges.{IsPart, IsInside}
use Rattle.sp_sums.proofs.ColumnLemmas.{coefficients-column, known_column, same_number, other_number, tested_same}
use Rattle.sp_sums.proofs.SpanLemmas.{IsWithinReach, part_reach, inside_reach, least_bounded, most_bounded, sum-le-width, coefficients, shift, weight, sum-set, weight-le-width, shift-le}

-- the next item of what is left
pub next_item : {X : Type 0} (xs : List X) (i : ℕ) (x : X) → i < length xs → x ≡ get_or xs i x → drop i xs ≡ x ∷ drop (i + 1) xs
next_item xs i x h e = drop_more xs i x h ∙ ap (λ v. v ∷ drop (i + 1) xs) (sym e)

-- ---- what holds at each move

pub in_box : (root b : Bounds) (rows : List Row) (j : ℕ) (q : ℤ × ℤ) → IsMove root b rows j q → j < length b
in_box root b rows j q v = omega (arith, v.change.known, v.inside.long)

inside_step : (root b : Bounds) (j : ℕ) (q : ℤ × ℤ) (i : ℕ) (c : Bool) → nat_eq i j ≡ c → j < length b → IsPart (range_at root j) q → IsPart (range_at root i) (range_at b i) → IsPart (range_at root i) (range_at (set b j q) i)
inside_step root b j q i true e h p o =
    let same : i ≡ j = same_number i j e in
    rw (same, get_or-set_same b j q (pos 0, pos 0) h) p
inside_step root b j q i false e h p o =
    rw (get_or-set_other b j i q (pos 0, pos 0) (other_number i j e)) o

pub inside_set : (root b : Bounds) (j : ℕ) (q : ℤ × ℤ) → IsInside root b → j < length b → IsPart (range_at root j) q → IsInside root (set b j q)
inside_set root b j q h l p = record {
  long = length-set b j q ∙ h.long;
  each = λ i k. inside_step root b j q i (nat_eq i j) refl l p (h.each i k);
}

-- the new box lies in the root's too
pub inside_after : (root b : Bounds) (rows : List Row) (j : ℕ) (q : ℤ × ℤ) → IsMove root b rows j q → IsInside root (set b j q)
inside_after root b rows j q v = inside_set root b j q v.inside (in_box root b rows j q v) v.change.part

pub narrow_row : (root : Bounds) (rows : List Row) (k : ℕ) → AreRowsFit root rows → k < length rows → width_over root (row_at rows k).terms ≤ 10 ^ 36
narrow_row root rows k l h =
    let r : IsRowFit root (row_at rows k) = l.each k bare_row h in
    r.narrow.narrow

-- ---- a row whose entries are to come

pub record IsPending (r q : ℤ × ℤ) (n : ℕ) (cs : List ℤ) (s t : Span) : Type 0 where
  pub least : s.least +ℤ shift term_least r q cs ≡ t.least
  pub most : s.most +ℤ shift term_most r q cs ≡ t.most
  pub light : weight cs * n ≤ 10 ^ 36

pub pending_start : (b : Bounds) (j : ℕ) (q : ℤ × ℤ) (n : ℕ) (row : Row) → j < length b → weight (coefficients j row.terms) * n ≤ 10 ^ 36 → IsPending (range_at b j) q n (coefficients j row.terms) (span_of b row) (span_of (set b j q) row)
pending_start b j q n row h w = record {
  least = sym (sum-set term_least b j q h row.terms);
  most = sym (sum-set term_most b j q h row.terms);
  light = w;
}

pub pending_turn : (r q : ℤ × ℤ) (n : ℕ) (a : ℤ) (cs : List ℤ) (s t : Span) → IsPending r q n (a ∷ cs) s t → IsPending r q n cs (moved s a r q) t
pending_turn r q n a cs s t p = record {
  least = omega (arith, ints, p.least);
  most = omega (arith, ints, p.most);
  light = omega (arith, p.light);
}

abbrev span_from : ℤ → ℤ → Span
span_from l u = record { least = l; most = u }

pub pending_stop : (r q : ℤ × ℤ) (n : ℕ) (s t : Span) → IsPending r q n [] s t → s ≡ t
pending_stop r q n s t p =
    let least : s.least ≡ t.least = omega (arith, ints, p.least) in
    let most : s.most ≡ t.most = omega (arith, ints, p.most) in
    ap₂ span_from least most

abs-rest : (a b c : ℤ) → a +ℤ b ≡ c → unsigned_abs a ≤ unsigned_abs c + unsigned_abs b
abs-rest a b c e = omega (arith, ints)

pub pending_small : (r q : ℤ × ℤ) (n : ℕ) (cs : List ℤ) (s t : Span) → IsWithinReach n r → IsWithinReach n q → IsPending r q n cs s t → unsigned_abs t.least ≤ 10 ^ 36 → unsigned_abs t.most ≤ 10 ^ 36 → IsSpanSmall s
pending_small r q n cs s t hr hq p l u = record {
  least = omega (arith, abs-rest s.least (shift term_least r q cs) t.least p.least, shift-le term_least least_bounded n r q hr hq cs, p.light);
  most = omega (arith, abs-rest s.most (shift term_most r q cs) t.most p.most, shift-le term_most most_bounded n r q hr hq cs, p.light);
}

product_small : (a v : ℤ) (n rest : ℕ) → unsigned_abs v ≤ n → (unsigned_abs a + rest) * n ≤ 10 ^ 36 → unsigned_abs (a *ℤ v) ≤ 10 ^ 36
product_small a v n rest h w = rw unsigned_abs-mul (omega (arith, mul-le-mul_left (unsigned_abs a) h))

pub term_small : (n rest : ℕ) (a : ℤ) (r : ℤ × ℤ) → IsWithinReach n r → (unsigned_abs a + rest) * n ≤ 10 ^ 36 → IsTermSmall a r
term_small n rest a r h w = record { lower = product_small a r.0 n rest h.lower w; upper = product_small a r.1 n rest h.upper w }

-- ---- all rows

pub record IsMoving (root b : Bounds) (rows : List Row) (j : ℕ) (q : ℤ × ℤ) (rest : List Entry) (ss : List Span) : Type 0 where
  pub long : length ss ≡ length rows
  pub known : All (λ (e : Entry). e.0 < length rows) rest
  pub each : (k : ℕ) → k < length rows → IsPending (range_at b j) q (reach (range_at root j)) (coefficients k rest) (span_at ss k) (span_of (set b j q) (row_at rows k))

-- the span of a row in the list of all
pub span_in : (b : Bounds) (rows : List Row) (k : ℕ) → k < length rows → span_at (map (span_of b) rows) k ≡ span_of b (row_at rows k)
span_in b [] k h = absurd (omega arith)
span_in b (row ∷ rows) zero h = refl
span_in b (row ∷ rows) (suc k) h = span_in b rows k (omega arith)

pub moving_start : (root b : Bounds) (rows : List Row) (j : ℕ) (q : ℤ × ℤ) (column : List Entry) (ss : List Span) → IsMove root b rows j q → column ≡ column_of j rows → ss ≡ map (span_of b) rows → IsMoving root b rows j q column ss
moving_start root b rows j q column ss v e s = rw (e, s) record {
  long = length-map rows (span_of b);
  known = known_column j rows;
  each = λ k h. rw (coefficients-column j k rows, span_in b rows k h) (pending_start b j q (reach (range_at root j)) (row_at rows k) (in_box root b rows j q v)
      (omega (arith, weight-le-width root j (row_at rows k).terms, narrow_row root rows k v.fit h)));
}

turn_step : (r q : ℤ × ℤ) (n k : ℕ) (e : Entry) (rest : List Entry) (ss : List Span) (t : Span) (c : Bool) → nat_eq e.0 k ≡ c → k < length ss → IsPending r q n (cond c (e.1 ∷ coefficients k rest) (coefficients k rest)) (span_at ss k) t → IsPending r q n (coefficients k rest) (span_at (set ss e.0 (moved (span_at ss e.0) e.1 r q)) k) t
turn_step r q n k e rest ss t true x h p =
    let same : e.0 ≡ k = same_number e.0 k x in
    rw (same, get_or-set_same ss k (moved (span_at ss k) e.1 r q) zero_span h) (pending_turn r q n e.1 (coefficients k rest) (span_at ss k) t p)
turn_step r q n k e rest ss t false x h p =
    let other : k ≢ e.0 = λ y. other_number e.0 k x (sym y) in
    rw (get_or-set_other ss e.0 k (moved (span_at ss e.0) e.1 r q) zero_span other) p

pub moving_turn : (root b : Bounds) (rows : List Row) (j : ℕ) (q : ℤ × ℤ) (e : Entry) (rest : List Entry) (ss new : List Span) → IsMoving root b rows j q (e ∷ rest) ss → new ≡ set ss e.0 (moved (span_at ss e.0) e.1 (range_at b j) q) → IsMoving root b rows j q rest new
moving_turn root b rows j q e rest ss new g s = rw s record {
  long = length-set ss e.0 (moved (span_at ss e.0) e.1 (range_at b j) q) ∙ g.long;
  known = λ k d h. g.known (suc k) d (omega arith);
  each = λ k h. turn_step (range_at b j) q (reach (range_at root j)) k e rest ss (span_of (set b j q) (row_at rows k)) (nat_eq e.0 k) refl (omega (arith, g.long)) (g.each k h);
}

-- from its row alone
pub next_from_row : (root b : Bounds) (rows : List Row) (j : ℕ) (q : ℤ × ℤ) (e : Entry) (cs : List ℤ) (ss : List Span) → IsMove root b rows j q → e.0 < length rows → IsPending (range_at b j) q (reach (range_at root j)) (e.1 ∷ cs) (span_at ss e.0) (span_of (set b j q) (row_at rows e.0)) → IsNext (range_at b j) q (length rows) e ss
next_from_row root b rows j q e cs ss v h here =
    let from : IsWithinReach (reach (range_at root j)) (range_at b j) = inside_reach root b v.inside j in
    let to : IsWithinReach (reach (range_at root j)) q = part_reach (range_at root j) q v.change.part in
    let after : IsInside root (set b j q) = inside_after root b rows j q v in
    let narrow = narrow_row root rows e.0 v.fit h in
    record {
      known = h;
      small = pending_small (range_at b j) q (reach (range_at root j)) (e.1 ∷ cs) (span_at ss e.0) (span_of (set b j q) (row_at rows e.0)) from to here
          (omega (arith, sum-le-width term_least least_bounded root (set b j q) after (row_at rows e.0).terms, narrow))
          (omega (arith, sum-le-width term_most most_bounded root (set b j q) after (row_at rows e.0).terms, narrow));
      from = term_small (reach (range_at root j)) (weight cs) e.1 (range_at b j) from here.light;
      to = term_small (reach (range_at root j)) (weight cs) e.1 q to here.light;
    }

pub moving_next : (root b : Bounds) (rows : List Row) (j : ℕ) (q : ℤ × ℤ) (e : Entry) (rest : List Entry) (ss : List Span) → IsMove root b rows j q → IsMoving root b rows j q (e ∷ rest) ss → IsNext (range_at b j) q (length rows) e ss
moving_next root b rows j q e rest ss v g =
    let h : e.0 < length rows = g.known 0 e (omega arith) in
    next_from_row root b rows j q e (coefficients e.0 rest) ss v h (rw (tested_same e.0 e.0 refl) at (g.each e.0 h))

pub moving_stop : (root b : Bounds) (rows : List Row) (j : ℕ) (q : ℤ × ℤ) (ss : List Span) → IsMoving root b rows j q [] ss → ss ≡ map (span_of (set b j q)) rows
moving_stop root b rows j q ss g =
    same_lists ss (map (span_of (set b j q)) rows) (g.long ∙ sym (length-map rows (span_of (set b j q))))
    (λ k d h. (
    let inside : k < length rows = omega (arith, g.long) in
    let inside2 : k < length (map (span_of (set b j q)) rows) = omega (arith, length-map rows (span_of (set b j q))) in
    get_or_default ss k d zero_span h
    ∙ pending_stop (range_at b j) q (reach (range_at root j)) (span_at ss k) (span_of (set b j q) (row_at rows k)) (g.each k inside)
    ∙ sym (span_in (set b j q) rows k inside)
    ∙ get_or_default (map (span_of (set b j q)) rows) k zero_span d inside2
    ))
