-- The places that the reader holds stay those of rows and columns, and its names are no more than the lines.
use Rattle.std.proofs.Common.{◌≡◌, ℕ, ◌+◌, ◌<◌, ◌≤◌, ◌^◌, ◌==◌, Bool, true, false, not, List, [], ◌∷◌, ◌++◌, length, map, get_or, suc, refl, subst, arith}
use Rattle.std.specs.Prelude.{Option, Some, None, if◌then◌else◌, Ok, IfSome, All}
use Prim.Native.Nat.{zero}
use Rattle.std.proofs.lemmas.List.Elements.{All-append, All-map}
use Rattle.sp_draft.specs.Names.{is_among, with_name, place_of}
use Rattle.sp_mps_words.specs.declared.faults.FaultKind.TheVariants.{Syntax, DuplicateName}
use Rattle.sp_mps_words.specs.declared.heads.Head.{Head}
use Rattle.sp_mps_words.specs.declared.heads.Head.TheVariants.{Name, Objsense, Rows, Columns, Rhs, Ranges, Bounds, Indicators, Endata}
use Rattle.sp_mps_words.specs.declared.line_kinds.LineKind.{LineKind}
use Rattle.sp_mps_words.specs.declared.line_kinds.LineKind.TheVariants.{Ignored, Section, Data}
use Rattle.sp_mps_words.specs.Kinds.{row_kind_of}
use Rattle.sp_mps_words.specs.Marks.{is_marker, mark_of, is_if}
use Rattle.sp_mps_words.specs.Values.{flag_of}
use Rattle.sp_mps_words.specs.Lines.{Line}
use Rattle.sp_mps_words.specs.Words.{Word, word_at}
use Rattle.sp_mps_sections.specs.Fronts.{first_of, last_of}
use Rattle.sp_mps_sections.specs.Faults.{or_then, fault_if, known_fault, name_fault, declared_fault, value_fault}
use Rattle.sp_mps_sections.specs.Rows.{is_free, is_free_at, check_row}
use Rattle.sp_mps_sections.specs.Columns.{term_of}
use Rattle.sp_mps_sections.specs.Pairs.{row_values}
use Rattle.sp_mps_sections.specs.Indicators.{indicator_row, row_fault, indicator_fault, check_indicator}
use Rattle.sp_mps.specs.Checks.{check_words, check_data}
use Rattle.sp_mps_sections.specs.declared.columns.Term.{Term}
use Rattle.sp_mps_sections.specs.declared.indicators.IndicatorRow.{IndicatorRow}
use Rattle.sp_mps_sections.specs.declared.pairs.RowValue.{RowValue}
use Rattle.sp_mps.specs.declared.reader.Reader.{Reader}
use Rattle.sp_mps.specs.inner.Reads.{IsKnown, IsKnownRow}
use Rattle.sp_mps.specs.inner.Room.{HasRoom}
use Rattle.sp_mps_sections.specs.Answers.{or_else}
use Rattle.sp_mps_sections.specs.Additions.{with_row, with_mark, with_column}
use Rattle.sp_mps.specs.inner.Steps.{with_data, with_words, step}
use Rattle.sp_mps.proofs.FactLemmas.{unless_ok}
use Rattle.sp_mps.proofs.GrowthLemmas.{grows, grows_little, place_added, grows_by_new, declared_within}
use Rattle.sp_mps.proofs.SectionLemmas.{behind, before}

one : {X : Type 0} (P : X → Type 0) (x : X) → P x → All P (x ∷ [])
one {X = X} P x p = at
  where
    at : (k : ℕ) (d : X) → k < 1 → P (get_or (x ∷ []) k d)
    at zero d lt = p
    at (suc k) d lt = absurd (omega arith)

wider_rows : (r q c b : ℕ) → r ≤ q → c ≤ b → (is : List IndicatorRow) → All (IsKnownRow r c) is → All (IsKnownRow q b) is
wider_rows r q c b h k is a = λ i d lt. let w = a i d lt in record { row = omega (arith, h, w.row); column = omega (arith, k, w.column) }

wider_terms : (c b : ℕ) → c ≤ b → (ts : List Term) → All (λ (t : Term). t.column < c) ts → All (λ (t : Term). t.column < b) ts
wider_terms c b h ts a = λ i d lt. let w = a i d lt in omega (arith, h, w)

-- the objective, where the next row may be it
objective_known : (o : Option ℕ) (b : Bool) (n m : ℕ) → n < m → IfSome o (λ r. r < n) → IfSome (or_else o (first_of (if b then n ∷ [] else []))) (λ r. r < m)
objective_known None true n m lt h = lt
objective_known None false n m lt h = tt
objective_known (Some r) b n m lt h = omega (arith, lt, h)

rows_known : (count : ℕ) (kind name : Word) (s : Reader) → IsKnown s → check_row s.rows count kind name ≡ None → IsKnown (record s { rows = with_row (row_kind_of kind) name s.rows })
rows_known count kind name s k e =
    let new : fault_if (is_among s.rows.names name) DuplicateName ≡ None =
    behind (name_fault name) (fault_if (is_among s.rows.names name) DuplicateName)
    (behind (known_fault (row_kind_of kind)) (or_then (name_fault name) (fault_if (is_among s.rows.names name) DuplicateName))
    (behind (fault_if (not (count == 2)) Syntax) (or_then (known_fault (row_kind_of kind)) (or_then (name_fault name) (fault_if (is_among s.rows.names name) DuplicateName))) e)) in
    record {
      objective = objective_known s.rows.objective (is_free (row_kind_of kind)) (length s.rows.names) (length (with_name s.rows.names name)) (grows_by_new s.rows.names name new) k.objective;
      terms = k.terms;
      indicators = wider_rows (length s.rows.names) (length (with_name s.rows.names name)) (length s.columns.names) (length s.columns.names) (grows s.rows.names name) (omega arith) s.indicators.rows k.indicators;
    }

column_known : (name : Word) (pairs : List RowValue) (s : Reader) → IsKnown s → IsKnown (record s { columns = with_column name pairs s.columns })
column_known name pairs s k = record {
  objective = k.objective;
  terms = All-append (λ (t : Term). t.column < length (with_name s.columns.names name)) s.columns.terms (map (term_of (place_of s.columns.names name)) pairs)
      (wider_terms (length s.columns.names) (length (with_name s.columns.names name)) (grows s.columns.names name) s.columns.terms k.terms)
      (All-map (λ (t : Term). t.column < length (with_name s.columns.names name)) (term_of (place_of s.columns.names name)) pairs (λ i d lt. place_added s.columns.names name));
  indicators = wider_rows (length s.rows.names) (length s.rows.names) (length s.columns.names) (length (with_name s.columns.names name)) (omega arith) (grows s.columns.names name) s.indicators.rows k.indicators;
}

mark_known : (mark : Option Bool) (s : Reader) → IsKnown s → IsKnown (record s { columns = with_mark mark s.columns })
mark_known None s k = k
mark_known (Some opens) s k = record { objective = k.objective; terms = k.terms; indicators = k.indicators }

either_known : (b : Bool) (mark : Option Bool) (name : Word) (pairs : List RowValue) (s : Reader) → IsKnown s → IsKnown (record s { columns = if b then with_mark mark s.columns else with_column name pairs s.columns })
either_known true mark name pairs s k = mark_known mark s k
either_known false mark name pairs s k = column_known name pairs s k

indicator_known : (count : ℕ) (a b c d : Word) (s : Reader) → IsKnown s → check_indicator s.rows s.columns.names s.indicators.names count a b c d ≡ None → All (IsKnownRow (length s.rows.names) (length s.columns.names)) (s.indicators.rows ++ indicator_row s.rows s.columns.names b c d ∷ [])
indicator_known count a b c d s k e =
    let parts : indicator_fault s.rows s.columns.names s.indicators.names b c d ≡ None =
    behind (fault_if (not (is_if a)) Syntax) (indicator_fault s.rows s.columns.names s.indicators.names b c d)
    (behind (fault_if (not (count == 4)) Syntax) (or_then (fault_if (not (is_if a)) Syntax) (indicator_fault s.rows s.columns.names s.indicators.names b c d)) e) in
    let row : declared_fault s.rows.names b ≡ None =
    before (declared_fault s.rows.names b) (or_then (fault_if (is_free_at s.rows.kinds (place_of s.rows.names b)) Syntax) (fault_if (is_among s.indicators.names b) DuplicateName))
    (before (row_fault s.rows s.indicators.names b) (or_then (declared_fault s.columns.names c) (value_fault (flag_of d))) parts) in
    let column : declared_fault s.columns.names c ≡ None =
    before (declared_fault s.columns.names c) (value_fault (flag_of d))
    (behind (row_fault s.rows s.indicators.names b) (or_then (declared_fault s.columns.names c) (value_fault (flag_of d))) parts) in
    All-append (IsKnownRow (length s.rows.names) (length s.columns.names)) s.indicators.rows (indicator_row s.rows s.columns.names b c d ∷ []) k.indicators
    (one (IsKnownRow (length s.rows.names) (length s.columns.names)) (indicator_row s.rows s.columns.names b c d) (record { row = declared_within s.rows.names b row; column = declared_within s.columns.names c column }))

data_known : (h : Option Head) (w : List Word) (s : Reader) → IsKnown s → check_data s h (length w) (word_at w 0) (word_at w 1) (word_at w 2) (word_at w 3) (word_at w 4) ≡ None → IsKnown (with_data h (length w) (word_at w 0) (word_at w 1) (word_at w 2) (word_at w 3) (word_at w 4) s)
data_known (Some Objsense) w s k e = record { objective = k.objective; terms = k.terms; indicators = k.indicators }
data_known (Some Rows) w s k e = rows_known (length w) (word_at w 0) (word_at w 1) s k e
data_known (Some Columns) w s k e = either_known (is_marker (length w) (word_at w 1)) (mark_of (word_at w 2)) (word_at w 0) (row_values s.rows (length w == 5) (word_at w 1) (word_at w 2) (word_at w 3) (word_at w 4)) s k
data_known (Some Rhs) w s k e = record { objective = k.objective; terms = k.terms; indicators = k.indicators }
data_known (Some Ranges) w s k e = record { objective = k.objective; terms = k.terms; indicators = k.indicators }
data_known (Some Bounds) w s k e = record { objective = k.objective; terms = k.terms; indicators = k.indicators }
data_known (Some Indicators) w s k e = record { objective = k.objective; terms = k.terms; indicators = indicator_known (length w) (word_at w 0) (word_at w 1) (word_at w 2) (word_at w 3) s k e }
data_known (Some Name) w s k e = k
data_known (Some Endata) w s k e = k
data_known None w s k e = k

words_known : (kind : LineKind) (w : List Word) (s : Reader) → IsKnown s → check_words s kind w ≡ None → IsKnown (with_words kind w s)
words_known Ignored w s k e = k
words_known Section w s k e = record { objective = k.objective; terms = k.terms; indicators = k.indicators }
words_known Data w s k e = data_known (last_of s.heads) w s k e

pub taken_known : (l : Line) (s t : Reader) → IsKnown s → step s l ≡ Ok t → IsKnown t
unfolding step
taken_known l s t k e =
    let r = unless_ok (check_words s l.kind l.words) (with_words l.kind l.words s) t e in
    let P : Reader → Type 0 = IsKnown in
    subst P r.1 (words_known l.kind l.words s k r.0)

-- the names are no more than this
pub record AreFew (n : ℕ) (s : Reader) : Type 0 where
  pub rows : length s.rows.names ≤ n
  pub columns : length s.columns.names ≤ n
  pub indicators : length s.indicators.names ≤ n

more : (n : ℕ) (s : Reader) → AreFew n s → AreFew (n + 1) s
more n s f = record { rows = omega (arith, f.rows); columns = omega (arith, f.columns); indicators = omega (arith, f.indicators) }

marked_few : (n : ℕ) (mark : Option Bool) (s : Reader) → AreFew n s → AreFew (n + 1) (record s { columns = with_mark mark s.columns })
marked_few n None s f = more n s f
marked_few n (Some opens) s f = record { rows = omega (arith, f.rows); columns = omega (arith, f.columns); indicators = omega (arith, f.indicators) }

either_few : (n : ℕ) (b : Bool) (mark : Option Bool) (name : Word) (pairs : List RowValue) (s : Reader) → AreFew n s → AreFew (n + 1) (record s { columns = if b then with_mark mark s.columns else with_column name pairs s.columns })
either_few n true mark name pairs s f = marked_few n mark s f
either_few n false mark name pairs s f = record { rows = omega (arith, f.rows); columns = omega (arith, f.columns, grows_little s.columns.names name); indicators = omega (arith, f.indicators) }

same_few : (n : ℕ) (s : Reader) (t : Reader) → length t.rows.names ≡ length s.rows.names → length t.columns.names ≡ length s.columns.names → length t.indicators.names ≡ length s.indicators.names → AreFew n s → AreFew (n + 1) t
same_few n s t a b c f = record { rows = omega (arith, f.rows, a); columns = omega (arith, f.columns, b); indicators = omega (arith, f.indicators, c) }

data_few : (n : ℕ) (h : Option Head) (w : List Word) (s : Reader) → AreFew n s → AreFew (n + 1) (with_data h (length w) (word_at w 0) (word_at w 1) (word_at w 2) (word_at w 3) (word_at w 4) s)
data_few n (Some Objsense) w s f = same_few n s (with_data (Some Objsense) (length w) (word_at w 0) (word_at w 1) (word_at w 2) (word_at w 3) (word_at w 4) s) refl refl refl f
data_few n (Some Rows) w s f = record { rows = omega (arith, f.rows, grows_little s.rows.names (word_at w 1)); columns = omega (arith, f.columns); indicators = omega (arith, f.indicators) }
data_few n (Some Columns) w s f = either_few n (is_marker (length w) (word_at w 1)) (mark_of (word_at w 2)) (word_at w 0) (row_values s.rows (length w == 5) (word_at w 1) (word_at w 2) (word_at w 3) (word_at w 4)) s f
data_few n (Some Rhs) w s f = same_few n s (with_data (Some Rhs) (length w) (word_at w 0) (word_at w 1) (word_at w 2) (word_at w 3) (word_at w 4) s) refl refl refl f
data_few n (Some Ranges) w s f = same_few n s (with_data (Some Ranges) (length w) (word_at w 0) (word_at w 1) (word_at w 2) (word_at w 3) (word_at w 4) s) refl refl refl f
data_few n (Some Bounds) w s f = same_few n s (with_data (Some Bounds) (length w) (word_at w 0) (word_at w 1) (word_at w 2) (word_at w 3) (word_at w 4) s) refl refl refl f
data_few n (Some Indicators) w s f = record { rows = omega (arith, f.rows); columns = omega (arith, f.columns); indicators = omega (arith, f.indicators, grows_little s.indicators.names (word_at w 1)) }
data_few n (Some Name) w s f = more n s f
data_few n (Some Endata) w s f = more n s f
data_few n None w s f = more n s f

words_few : (n : ℕ) (kind : LineKind) (w : List Word) (s : Reader) → AreFew n s → AreFew (n + 1) (with_words kind w s)
words_few n Ignored w s f = more n s f
words_few n Section w s f = same_few n s (with_words Section w s) refl refl refl f
words_few n Data w s f = data_few n (last_of s.heads) w s f

pub taken_few : (n : ℕ) (l : Line) (s t : Reader) → AreFew n s → step s l ≡ Ok t → AreFew (n + 1) t
unfolding step
taken_few n l s t f e =
    let r = unless_ok (check_words s l.kind l.words) (with_words l.kind l.words s) t e in
    let P : Reader → Type 0 = AreFew (n + 1) in
    subst P r.1 (words_few n l.kind l.words s f)

pub has_room : (n : ℕ) (s : Reader) → n ≤ 2 ^ 26 → AreFew n s → HasRoom s
has_room n s h f = record { rows = omega (arith, h, f.rows); columns = omega (arith, h, f.columns); indicators = omega (arith, h, f.indicators) }
