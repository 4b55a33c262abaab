-- What one more line adds to a section, where it is one of its data lines and passes, and where it isn't.
use Rattle.std.proofs.Common.{◌≡◌, Bool, true, false, not, ◌==◌, List, [], ◌∷◌, ◌++◌, length, fold, map, refl}
use Rattle.std.specs.Prelude.{Option, Some, None, if◌then◌else◌}
use Rattle.std.proofs.lemmas.List.{append-nil}
use Rattle.sp_draft.specs.Names.{is_among, with_name, place_of}
use Rattle.sp_mps_words.specs.declared.faults.FaultKind.{FaultKind}
use Rattle.sp_mps_words.specs.declared.faults.FaultKind.TheVariants.{Syntax, DuplicateName}
use Rattle.sp_mps_words.specs.declared.heads.Head.TheVariants.{Rows, Columns, Rhs, Ranges, Bounds, Indicators}
use Rattle.sp_mps_words.specs.Kinds.{row_kind_of, bound_kind_of}
use Rattle.sp_mps_words.specs.Marks.{is_marker, mark_of}
use Rattle.sp_mps_words.specs.Lines.{Line}
use Rattle.sp_mps_words.specs.Words.{Word, word_at}
use Rattle.sp_mps_sections.specs.Fronts.{first_of, listed, section_behind, is_data_of}
use Rattle.sp_mps_sections.specs.Faults.{or_then, fault_if, known_fault, name_fault}
use Rattle.sp_mps_sections.specs.Rows.{row_names, row_kinds, objective_row, row_list, free_place, check_row}
use Rattle.sp_mps_sections.specs.Columns.{column_in, mark_in, integer_in, terms_in, last_mark, column_names, is_open, integers, terms, column_list, new_integer, term_of}
use Rattle.sp_mps_sections.specs.Pairs.{row_values}
use Rattle.sp_mps_sections.specs.Sides.{set_name, side_set, sides_on, sides, side_list, range_set, ranges_on, ranges, range_list}
use Rattle.sp_mps_sections.specs.Bounds.{set_on, bound_set, bounds_on, bounds, bound_list}
use Rattle.sp_mps_sections.specs.Indicators.{indicator_names, indicator_row, indicator_rows, indicator_list}
use Rattle.sp_mps_sections.specs.declared.rows.RowList.{RowList}
use Rattle.sp_mps_sections.specs.declared.columns.ColumnList.{ColumnList}
use Rattle.sp_mps_sections.specs.declared.columns.Term.{Term}
use Rattle.sp_mps_sections.specs.declared.sides.SideList.{SideList}
use Rattle.sp_mps_sections.specs.declared.sides.RangeList.{RangeList}
use Rattle.sp_mps_sections.specs.declared.bounds.BoundList.{BoundList}
use Rattle.sp_mps_sections.specs.declared.indicators.IndicatorList.{IndicatorList}
use Rattle.sp_mps_sections.specs.Answers.{or_else}
use Rattle.sp_mps_sections.specs.Additions.{with_row, with_mark, with_column_line}
use Rattle.sp_mps.proofs.FrontLemmas.{one_more_in, first_more_in, fold_more_in, or_else-none}

-- ROWS
abbrev pub rows_added : Bool → List Word → RowList → RowList
rows_added b w s = record {
  names = s.names ++ (if b then word_at w 1 ∷ [] else []);
  kinds = s.kinds ++ (if b then listed (row_kind_of (word_at w 0)) else []);
  objective = or_else s.objective (first_of (if b then free_place (row_kind_of (word_at w 0)) (length s.names) else []));
}

pub rows_more : (before : List Line) (l : Line) → row_list (before ++ l ∷ []) ≡ rows_added (is_data_of Rows (section_behind before) l.kind) l.words (row_list before)
unfolding row_list row_names row_kinds objective_row
rows_more before l = λ i. record {
  names = one_more_in Rows (λ b w. word_at w 1 ∷ []) before l i;
  kinds = one_more_in Rows (λ b w. listed (row_kind_of (word_at w 0))) before l i;
  objective = first_more_in Rows (λ b w. free_place (row_kind_of (word_at w 0)) (length (row_names b))) before l i;
}

pub rows_same : (w : List Word) (s : RowList) → rows_added false w s ≡ s
rows_same w s = λ i. record { names = append-nil s.names i; kinds = append-nil s.kinds i; objective = or_else-none s.objective i }

new_name : (names : List Word) (name : Word) → fault_if (is_among names name) DuplicateName ≡ None → names ++ name ∷ [] ≡ with_name names name
new_name names name e = by (is_among names name) e
  where
    by : (b : Bool) → fault_if b DuplicateName ≡ None → names ++ name ∷ [] ≡ (if b then names else names ++ name ∷ [])
    by true e = cc
    by false e = refl

-- where a test passes the later ones pass
pub behind : (o next : Option FaultKind) → or_then o next ≡ None → next ≡ None
behind None next e = e
behind (Some kind) next e = cc

pub before : (o next : Option FaultKind) → or_then o next ≡ None → o ≡ None
before None next e = refl
before (Some kind) next e = cc

pub rows_step : (w : List Word) (s : RowList) → check_row s (length w) (word_at w 0) (word_at w 1) ≡ None → rows_added true w s ≡ with_row (row_kind_of (word_at w 0)) (word_at w 1) s
rows_step w s e =
    let name : s.names ++ word_at w 1 ∷ [] ≡ with_name s.names (word_at w 1) = new_name s.names (word_at w 1)
    (behind (name_fault (word_at w 1)) (fault_if (is_among s.names (word_at w 1)) DuplicateName)
    (behind (known_fault (row_kind_of (word_at w 0))) (or_then (name_fault (word_at w 1)) (fault_if (is_among s.names (word_at w 1)) DuplicateName))
    (behind (fault_if (not (length w == 2)) Syntax) (or_then (known_fault (row_kind_of (word_at w 0))) (or_then (name_fault (word_at w 1)) (fault_if (is_among s.names (word_at w 1)) DuplicateName))) e))) in
    λ i. record { names = name i; kinds = s.kinds ++ listed (row_kind_of (word_at w 0)); objective = or_else s.objective (first_of (free_place (row_kind_of (word_at w 0)) (length s.names))) }

-- COLUMNS
abbrev pub columns_added : Bool → RowList → List Word → ColumnList → ColumnList
columns_added b rows w s = record {
  names = fold with_name s.names (if b then column_in w else []);
  is_open = fold last_mark s.is_open (if b then mark_in w else []);
  integers = s.integers ++ (if b then integer_in s.names s.is_open w else []);
  terms = s.terms ++ (if b then terms_in rows s.names w else []);
}

pub columns_more : (before : List Line) (l : Line) → column_list (before ++ l ∷ []) ≡ columns_added (is_data_of Columns (section_behind before) l.kind) (row_list before) l.words (column_list before)
unfolding column_list column_names is_open integers terms
columns_more before l = λ i. record {
  names = fold_more_in with_name [] Columns (λ b w. column_in w) before l i;
  is_open = fold_more_in last_mark false Columns (λ b w. mark_in w) before l i;
  integers = one_more_in Columns (λ b w. integer_in (column_names b) (is_open b) w) before l i;
  terms = one_more_in Columns (λ b w. terms_in (row_list b) (column_names b) w) before l i;
}

pub columns_same : (rows : RowList) (w : List Word) (s : ColumnList) → columns_added false rows w s ≡ s
columns_same rows w s = λ i. record { names = s.names; is_open = s.is_open; integers = append-nil s.integers i; terms = append-nil s.terms i }

marked : (m : Option Bool) (s : ColumnList) → (let x : ColumnList = record { names = s.names; is_open = fold last_mark s.is_open (listed m); integers = s.integers ++ []; terms = s.terms ++ [] } in x ≡ with_mark m s)
marked None s = λ i. record { names = s.names; is_open = s.is_open; integers = append-nil s.integers i; terms = append-nil s.terms i }
marked (Some m) s = λ i. record { names = s.names; is_open = m; integers = append-nil s.integers i; terms = append-nil s.terms i }

-- a line in COLUMNS, a marker line or not
either_line : (b : Bool) (m : Option Bool) (name : Word) (new_integers : List Bool) (new_terms : List Term) (s : ColumnList) → (let x : ColumnList = record { names = fold with_name s.names (if b then [] else name ∷ []); is_open = fold last_mark s.is_open (if b then listed m else []); integers = s.integers ++ (if b then [] else new_integers); terms = s.terms ++ (if b then [] else new_terms) } in x ≡ (if b then with_mark m s else record s { names = with_name s.names name; integers = s.integers ++ new_integers; terms = s.terms ++ new_terms }))
either_line true m name new_integers new_terms s = marked m s
either_line false m name new_integers new_terms s = refl

pub columns_step : (rows : RowList) (w : List Word) (s : ColumnList) → columns_added true rows w s ≡ with_column_line rows (length w) (word_at w 0) (word_at w 1) (word_at w 2) (word_at w 3) (word_at w 4) s
columns_step rows w s = either_line (is_marker (length w) (word_at w 1)) (mark_of (word_at w 2)) (word_at w 0) (new_integer s.names s.is_open (word_at w 0)) (map (term_of (place_of s.names (word_at w 0))) (row_values rows (length w == 5) (word_at w 1) (word_at w 2) (word_at w 3) (word_at w 4))) s

-- RHS
abbrev pub sides_added : Bool → RowList → List Word → SideList → SideList
sides_added b rows w s = record {
  set = or_else s.set (first_of (if b then set_name (length w) (word_at w 0) ∷ [] else []));
  sides = s.sides ++ (if b then sides_on rows (length w) (word_at w 0) (word_at w 1) (word_at w 2) (word_at w 3) (word_at w 4) else []);
}

pub sides_more : (before : List Line) (l : Line) → side_list (before ++ l ∷ []) ≡ sides_added (is_data_of Rhs (section_behind before) l.kind) (row_list before) l.words (side_list before)
unfolding side_list side_set sides
sides_more before l = λ i. record {
  set = first_more_in Rhs (λ b w. set_name (length w) (word_at w 0) ∷ []) before l i;
  sides = one_more_in Rhs (λ b w. sides_on (row_list b) (length w) (word_at w 0) (word_at w 1) (word_at w 2) (word_at w 3) (word_at w 4)) before l i;
}

pub sides_same : (rows : RowList) (w : List Word) (s : SideList) → sides_added false rows w s ≡ s
sides_same rows w s = λ i. record { set = or_else-none s.set i; sides = append-nil s.sides i }

-- RANGES
abbrev pub ranges_added : Bool → RowList → List Word → RangeList → RangeList
ranges_added b rows w s = record {
  set = or_else s.set (first_of (if b then set_name (length w) (word_at w 0) ∷ [] else []));
  ranges = s.ranges ++ (if b then ranges_on rows (length w) (word_at w 0) (word_at w 1) (word_at w 2) (word_at w 3) (word_at w 4) else []);
}

pub ranges_more : (before : List Line) (l : Line) → range_list (before ++ l ∷ []) ≡ ranges_added (is_data_of Ranges (section_behind before) l.kind) (row_list before) l.words (range_list before)
unfolding range_list range_set ranges
ranges_more before l = λ i. record {
  set = first_more_in Ranges (λ b w. set_name (length w) (word_at w 0) ∷ []) before l i;
  ranges = one_more_in Ranges (λ b w. ranges_on (row_list b) (length w) (word_at w 0) (word_at w 1) (word_at w 2) (word_at w 3) (word_at w 4)) before l i;
}

pub ranges_same : (rows : RowList) (w : List Word) (s : RangeList) → ranges_added false rows w s ≡ s
ranges_same rows w s = λ i. record { set = or_else-none s.set i; ranges = append-nil s.ranges i }

-- BOUNDS
abbrev pub bounds_added : Bool → List Word → List Word → BoundList → BoundList
bounds_added b columns w s = record {
  set = or_else s.set (first_of (if b then set_on (bound_kind_of (word_at w 0)) (length w) (word_at w 1) ∷ [] else []));
  bounds = s.bounds ++ (if b then bounds_on columns (bound_kind_of (word_at w 0)) (length w) (word_at w 1) (word_at w 2) (word_at w 3) else []);
}

pub bounds_more : (before : List Line) (l : Line) → bound_list (before ++ l ∷ []) ≡ bounds_added (is_data_of Bounds (section_behind before) l.kind) (column_names before) l.words (bound_list before)
unfolding bound_list bound_set bounds
bounds_more before l = λ i. record {
  set = first_more_in Bounds (λ b w. set_on (bound_kind_of (word_at w 0)) (length w) (word_at w 1) ∷ []) before l i;
  bounds = one_more_in Bounds (λ b w. bounds_on (column_names b) (bound_kind_of (word_at w 0)) (length w) (word_at w 1) (word_at w 2) (word_at w 3)) before l i;
}

pub bounds_same : (columns w : List Word) (s : BoundList) → bounds_added false columns w s ≡ s
bounds_same columns w s = λ i. record { set = or_else-none s.set i; bounds = append-nil s.bounds i }

-- INDICATORS
abbrev pub indicators_added : Bool → RowList → List Word → List Word → IndicatorList → IndicatorList
indicators_added b rows columns w s = record {
  names = fold with_name s.names (if b then word_at w 1 ∷ [] else []);
  rows = s.rows ++ (if b then indicator_row rows columns (word_at w 1) (word_at w 2) (word_at w 3) ∷ [] else []);
}

pub indicators_more : (before : List Line) (l : Line) → indicator_list (before ++ l ∷ []) ≡ indicators_added (is_data_of Indicators (section_behind before) l.kind) (row_list before) (column_names before) l.words (indicator_list before)
unfolding indicator_list indicator_names indicator_rows
indicators_more before l = λ i. record {
  names = fold_more_in with_name [] Indicators (λ b w. word_at w 1 ∷ []) before l i;
  rows = one_more_in Indicators (λ b w. indicator_row (row_list b) (column_names b) (word_at w 1) (word_at w 2) (word_at w 3) ∷ []) before l i;
}

pub indicators_same : (rows : RowList) (columns w : List Word) (s : IndicatorList) → indicators_added false rows columns w s ≡ s
indicators_same rows columns w s = λ i. record { names = s.names; rows = append-nil s.rows i }
