-- What a variable's column has of each row, and how the columns grow.
use Rattle.std.proofs.Common.{◌≡◌, ◌≢◌, ℕ, zero, suc, ◌+◌, ◌<◌, ◌≤◌, Bool, true, false, cond, nat_eq, List, [], ◌∷◌, ◌++◌, length, set, drop, replicate, All, refl, sym, ap, ◌∙◌, arith, append_assoc, get_or-set_same, get_or-set_other, add-one}
use Rattle.std.proofs.lemmas.Bool.Decides.{nat_tests}
use Rattle.std.proofs.lemmas.List.{append-nil, length-set, get_or-replicate, length-replicate, drop_all}
use Rattle.std.proofs.lemmas.List.Elements.{All-cons}
use Rattle.sp_model.specs.declared.parts.Row.{Row}
use Rattle.sp_model.specs.Sums.{Term}
use Rattle.sp_sums.specs.Rows.{row_at}
use Rattle.sp_sums.specs.Columns.{Entry, entries_of, column_from, column_of}
use Rattle.sp_sums.specs.Inner.{column_at, WithRow}
use Rattle.sp_sums.proofs.SpanLemmas.{coefficients}

-- ---- the coefficients that a column has beside a row

pub same_number : (a b : ℕ) → nat_eq a b ≡ true → a ≡ b
same_number a b e = grind (arith, nat_tests)

pub other_number : (a b : ℕ) → nat_eq a b ≡ false → a ≢ b
other_number a b e = grind (arith, nat_tests)

pub tested_same : (a b : ℕ) → a ≡ b → nat_eq a b ≡ true
tested_same a b e = grind (arith, nat_tests)

pub tested_other : (a b : ℕ) → a ≢ b → nat_eq a b ≡ false
tested_other a b e = grind (arith, nat_tests)

append_step : (k : ℕ) (e : Entry) (es fs : List Entry) (c : Bool) → coefficients k (es ++ fs) ≡ coefficients k es ++ coefficients k fs → cond c (e.1 ∷ coefficients k (es ++ fs)) (coefficients k (es ++ fs)) ≡ cond c (e.1 ∷ coefficients k es) (coefficients k es) ++ coefficients k fs
append_step k e es fs true h = ap (λ cs. e.1 ∷ cs) h
append_step k e es fs false h = h

pub coefficients-append : (k : ℕ) (es fs : List Entry) → coefficients k (es ++ fs) ≡ coefficients k es ++ coefficients k fs
coefficients-append k [] fs = refl
coefficients-append k (e ∷ es) fs = append_step k e es fs (nat_eq e.0 k) (coefficients-append k es fs)

same_step : (j k : ℕ) (t : Term) (ts : List Term) (c : Bool) → coefficients k (entries_of j k ts) ≡ coefficients j ts → coefficients k (cond c ((k, t.1) ∷ entries_of j k ts) (entries_of j k ts)) ≡ cond c (t.1 ∷ coefficients j ts) (coefficients j ts)
same_step j k t ts true h = rw (tested_same k k refl) (ap (λ cs. t.1 ∷ cs) h)
same_step j k t ts false h = h

pub coefficients-same : (j k : ℕ) (ts : List Term) → coefficients k (entries_of j k ts) ≡ coefficients j ts
coefficients-same j k [] = refl
coefficients-same j k (t ∷ ts) = same_step j k t ts (nat_eq t.0 j) (coefficients-same j k ts)

other_step : (j k i : ℕ) (t : Term) (ts : List Term) (c : Bool) → k ≢ i → coefficients i (entries_of j k ts) ≡ [] → coefficients i (cond c ((k, t.1) ∷ entries_of j k ts) (entries_of j k ts)) ≡ []
other_step j k i t ts true n h = rw (tested_other k i n) h
other_step j k i t ts false n h = h

pub coefficients-other : (j k i : ℕ) (ts : List Term) → k ≢ i → coefficients i (entries_of j k ts) ≡ []
coefficients-other j k i [] n = refl
coefficients-other j k i (t ∷ ts) n = other_step j k i t ts (nat_eq t.0 j) n (coefficients-other j k i ts n)

-- none of a row before the first
coefficients-before : (j k i : ℕ) (rows : List Row) → i < k → coefficients i (column_from j k rows) ≡ []
coefficients-before j k i [] h = refl
coefficients-before j k i (row ∷ rows) h =
    let n : k ≢ i = λ e. omega arith in
    rw (coefficients-append i (entries_of j k row.terms) (column_from j (suc k) rows), coefficients-other j k i row.terms n) (coefficients-before j (suc k) i rows (omega arith))

coefficients-from : (j k i n : ℕ) (rows : List Row) → n ≡ k + i → coefficients n (column_from j k rows) ≡ coefficients j (row_at rows i).terms
coefficients-from j k i n [] e = refl
coefficients-from j k zero n (row ∷ rows) e =
    let same : n ≡ k = omega arith in
    let rest : coefficients n (column_from j (suc k) rows) ≡ [] = coefficients-before j (suc k) n rows (omega arith) in
    let first : coefficients n (entries_of j k row.terms) ≡ coefficients j row.terms = rw same (coefficients-same j k row.terms) in
    rw (coefficients-append n (entries_of j k row.terms) (column_from j (suc k) rows), rest, first) (append-nil (coefficients j row.terms))
coefficients-from j k (suc i) n (row ∷ rows) e =
    let other : k ≢ n = λ q. omega arith in
    rw (coefficients-append n (entries_of j k row.terms) (column_from j (suc k) rows), coefficients-other j k n row.terms other) (coefficients-from j (suc k) i n rows (omega arith))

-- a column has beside a row the variable's coefficients there
pub coefficients-column : (j k : ℕ) (rows : List Row) → coefficients k (column_of j rows) ≡ coefficients j (row_at rows k).terms
coefficients-column j k rows = coefficients-from j 0 k k rows (omega arith)

-- ---- its rows are known

-- All, by cases on the list
All-both : {X : Type 0} (P : X → Type 0) (xs ys : List X) → All P xs → All P ys → All P (xs ++ ys)
All-both P [] ys h k = k
All-both P (x ∷ xs) ys h k = All-cons P x (xs ++ ys) (h 0 x (omega arith)) (All-both P xs ys (λ i d l. h (suc i) d (omega arith)) k)

known_step : (j k n : ℕ) (t : Term) (ts : List Term) (c : Bool) → k < n → All (λ (e : Entry). e.0 < n) (entries_of j k ts) → All (λ (e : Entry). e.0 < n) (cond c ((k, t.1) ∷ entries_of j k ts) (entries_of j k ts))
known_step j k n t ts true l h = All-cons (λ (e : Entry). e.0 < n) (k, t.1) (entries_of j k ts) l h
known_step j k n t ts false l h = h

known_entries : (j k n : ℕ) (ts : List Term) → k < n → All (λ (e : Entry). e.0 < n) (entries_of j k ts)
known_entries j k n [] l = λ i d h. absurd (omega arith)
known_entries j k n (t ∷ ts) l = known_step j k n t ts (nat_eq t.0 j) l (known_entries j k n ts l)

known_from : (j k n : ℕ) (rows : List Row) → k + length rows ≤ n → All (λ (e : Entry). e.0 < n) (column_from j k rows)
known_from j k n [] h = λ i d l. absurd (omega arith)
known_from j k n (row ∷ rows) h = All-both (λ (e : Entry). e.0 < n) (entries_of j k row.terms) (column_from j (suc k) rows) (known_entries j k n row.terms (omega arith)) (known_from j (suc k) n rows (omega arith))

pub known_column : (j : ℕ) (rows : List Row) → All (λ (e : Entry). e.0 < length rows) (column_of j rows)
known_column j rows = known_from j 0 (length rows) rows (omega arith)

-- ---- how the columns grow: within a row, by the terms that are left

pub record IsGrowing (k : ℕ) (ts rest : List Term) (old now : List (List Entry)) : Type 0 where
  pub long : length now ≡ length old
  pub each : (j : ℕ) → j < length old → column_at now j ++ entries_of j k rest ≡ column_at old j ++ entries_of j k ts

pub growing_start : (k : ℕ) (ts : List Term) (old : List (List Entry)) → IsGrowing k ts ts old old
growing_start k ts old = record { long = refl; each = λ j h. refl }

growing_step : (j k : ℕ) (t : Term) (rest : List Term) (now : List (List Entry)) (whole : List Entry) (c : Bool) → nat_eq t.0 j ≡ c → t.0 < length now → column_at now j ++ cond c ((k, t.1) ∷ entries_of j k rest) (entries_of j k rest) ≡ whole → column_at (set now t.0 (column_at now t.0 ++ (k, t.1) ∷ [])) j ++ entries_of j k rest ≡ whole
growing_step j k t rest now whole true e h w =
    let same : t.0 ≡ j = same_number t.0 j e in
    let inside : j < length now = omega arith in
    rw (same, get_or-set_same now j (column_at now j ++ (k, t.1) ∷ []) [] inside, append_assoc (column_at now j) ((k, t.1) ∷ []) (entries_of j k rest)) w
growing_step j k t rest now whole false e h w =
    let other : j ≢ t.0 = λ q. other_number t.0 j e (sym q) in
    rw (get_or-set_other now t.0 j (column_at now t.0 ++ (k, t.1) ∷ []) [] other) w

pub growing_turn : (k : ℕ) (ts rest : List Term) (t : Term) (old now new : List (List Entry)) → t.0 < length old → IsGrowing k ts (t ∷ rest) old now → new ≡ set now t.0 (column_at now t.0 ++ (k, t.1) ∷ []) → IsGrowing k ts rest old new
growing_turn k ts rest t old now new h g e = record {
  long = ap length e ∙ length-set now t.0 (column_at now t.0 ++ (k, t.1) ∷ []) ∙ g.long;
  each = λ j l. rw e (growing_step j k t rest now (column_at old j ++ entries_of j k ts) (nat_eq t.0 j) refl (omega (arith, g.long)) (g.each j l));
}

pub growing_stop : (k : ℕ) (ts : List Term) (old now : List (List Entry)) → IsGrowing k ts [] old now → WithRow k ts old now
growing_stop k ts old now g = record { long = g.long; each = λ j l. rw append-nil at (g.each j l) }

-- ---- and row after row

pub record IsFilling (n at : ℕ) (rows : List Row) (now : List (List Entry)) : Type 0 where
  pub long : length now ≡ n
  pub each : (j : ℕ) → j < n → column_at now j ++ column_from j at (drop at rows) ≡ column_of j rows

pub filling_start : (n : ℕ) (rows : List Row) (now : List (List Entry)) → now ≡ replicate n [] → IsFilling n 0 rows now
filling_start n rows now e = record {
  long = ap length e ∙ length-replicate n [];
  each = λ j h. rw (e, get_or-replicate {A = List Entry} n j [] [] h) refl;
}

pub filling_turn : (n at : ℕ) (rows : List Row) (row : Row) (now new : List (List Entry)) → drop at rows ≡ row ∷ drop (at + 1) rows → IsFilling n at rows now → WithRow at row.terms now new → IsFilling n (at + 1) rows new
filling_turn n at rows row now new d f w = record {
  long = w.long ∙ f.long;
  each = λ j h. (
      let here : column_at now j ++ (entries_of j at row.terms ++ column_from j (suc at) (drop (at + 1) rows)) ≡ column_of j rows = rw d at (f.each j h) in
      rw (add-one, w.each j (omega (arith, f.long)), append_assoc (column_at now j) (entries_of j at row.terms) (column_from j (suc at) (drop (suc at) rows))) (rw add-one at here)
      );
}

pub filling_stop : (n at : ℕ) (rows : List Row) (now : List (List Entry)) → length rows ≤ at → IsFilling n at rows now → (j : ℕ) → j < n → column_at now j ≡ column_of j rows
filling_stop n at rows now h f j l =
    let end : column_at now j ++ [] ≡ column_of j rows = rw (drop_all at rows h) at (f.each j l) in
    sym (append-nil (column_at now j)) ∙ end
