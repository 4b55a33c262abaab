-- A line that the reader takes passes, and the reader then holds what the lines through it say.
use Rattle.std.proofs.Common.{◌≡◌, Bool, true, List, [], ◌∷◌, ◌++◌, length, refl, ap, ◌∙◌, sym}
use Rattle.std.specs.Prelude.{Option, Some, None, Ok, Err}
use Rattle.std.proofs.lemmas.List.{append-nil}
use Rattle.sp_mps_words.specs.declared.faults.FaultKind.{FaultKind}
use Rattle.sp_mps_words.specs.declared.heads.Head.{Head}
use Rattle.sp_mps_words.specs.declared.heads.Head.TheVariants.{Name, Objsense, Rows, Columns, Rhs, Ranges, Bounds, Indicators, Endata}
use Rattle.sp_mps_words.specs.declared.line_kinds.LineKind.{LineKind}
use Rattle.sp_mps_words.specs.declared.line_kinds.LineKind.TheVariants.{Ignored, Section, Data}
use Rattle.sp_mps_words.specs.Kinds.{direction_of}
use Rattle.sp_mps_words.specs.Lines.{Line}
use Rattle.sp_mps_words.specs.Words.{Word, word_at}
use Rattle.sp_mps_sections.specs.Fronts.{each, first_of, last_of, listed, heads, heads_in, section_behind, is_data_of}
use Rattle.sp_mps_sections.specs.Order.{direction, directions_in}
use Rattle.sp_mps.specs.Facts.{facts}
use Rattle.sp_mps_sections.specs.Rows.{row_list, row_names, row_kinds, objective_row}
use Rattle.sp_mps_sections.specs.Columns.{column_list, column_names, is_open, integers, terms}
use Rattle.sp_mps_sections.specs.Sides.{side_list, side_set, sides, range_list, range_set, ranges}
use Rattle.sp_mps_sections.specs.Bounds.{bound_list, bound_set, bounds}
use Rattle.sp_mps_sections.specs.Indicators.{indicator_list, indicator_names, indicator_rows}
use Rattle.sp_mps.specs.Checks.{check, check_words, check_data}
use Rattle.sp_mps.specs.declared.reader.Reader.{Reader}
use Rattle.sp_mps_sections.specs.Answers.{or_else, unless}
use Rattle.sp_mps.specs.inner.Steps.{start, with_words, with_data, step}
use Rattle.sp_mps.proofs.FrontLemmas.{one_more, first_of-append, or_else-none}
use Rattle.sp_mps.proofs.SectionLemmas.{rows_added, rows_more, rows_same, rows_step, columns_added, columns_more, columns_same, columns_step, sides_added, sides_more, sides_same, ranges_added, ranges_more, ranges_same, bounds_added, bounds_more, bounds_same, indicators_added, indicators_more, indicators_same}

-- what a line of the kind in the section adds
abbrev added : Option Head → LineKind → List Word → Reader → Reader
added h k w s = record {
  heads = s.heads ++ heads_in k w;
  direction = or_else s.direction (first_of (directions_in h k w));
  rows = rows_added (is_data_of Rows h k) w s.rows;
  columns = columns_added (is_data_of Columns h k) s.rows w s.columns;
  sides = sides_added (is_data_of Rhs h k) s.rows w s.sides;
  ranges = ranges_added (is_data_of Ranges h k) s.rows w s.ranges;
  bounds = bounds_added (is_data_of Bounds h k) s.columns.names w s.bounds;
  indicators = indicators_added (is_data_of Indicators h k) s.rows s.columns.names w s.indicators;
}

directions_in_line : List Line → Line → List Bool
directions_in_line b x = directions_in (section_behind b) x.kind x.words

direction_more : (before : List Line) (l : Line) → direction (before ++ l ∷ []) ≡ or_else (direction before) (first_of (directions_in (section_behind before) l.kind l.words))
unfolding direction directions_in_line
direction_more before l =
    ap first_of (one_more directions_in_line [] before l) ∙ first_of-append (each directions_in_line [] before) (directions_in_line before l)

heads_more : (before : List Line) (l : Line) → heads (before ++ l ∷ []) ≡ heads before ++ heads_in l.kind l.words
unfolding heads
heads_more before l = one_more (λ b x. heads_in x.kind x.words) [] before l

facts_more : (before : List Line) (l : Line) → facts (before ++ l ∷ []) ≡ added (section_behind before) l.kind l.words (facts before)
unfolding facts column_list
facts_more before l = λ i. record {
  heads = heads_more before l i;
  direction = direction_more before l i;
  rows = rows_more before l i;
  columns = columns_more before l i;
  sides = sides_more before l i;
  ranges = ranges_more before l i;
  bounds = bounds_more before l i;
  indicators = indicators_more before l i;
}

-- a line that adds nothing
same : (w : List Word) (s : Reader) → added None Data w s ≡ s
same w s = λ i. record { heads = append-nil s.heads i; direction = or_else-none s.direction i; rows = rows_same w s.rows i; columns = columns_same s.rows w s.columns i; sides = sides_same s.rows w s.sides i; ranges = ranges_same s.rows w s.ranges i; bounds = bounds_same s.columns.names w s.bounds i; indicators = indicators_same s.rows s.columns.names w s.indicators i }

name_added : (w : List Word) (s : Reader) → added (Some Name) Data w s ≡ s
name_added w s = λ i. record { heads = append-nil s.heads i; direction = or_else-none s.direction i; rows = rows_same w s.rows i; columns = columns_same s.rows w s.columns i; sides = sides_same s.rows w s.sides i; ranges = ranges_same s.rows w s.ranges i; bounds = bounds_same s.columns.names w s.bounds i; indicators = indicators_same s.rows s.columns.names w s.indicators i }

endata_added : (w : List Word) (s : Reader) → added (Some Endata) Data w s ≡ s
endata_added w s = λ i. record { heads = append-nil s.heads i; direction = or_else-none s.direction i; rows = rows_same w s.rows i; columns = columns_same s.rows w s.columns i; sides = sides_same s.rows w s.sides i; ranges = ranges_same s.rows w s.ranges i; bounds = bounds_same s.columns.names w s.bounds i; indicators = indicators_same s.rows s.columns.names w s.indicators i }

ignored_added : (h : Option Head) (w : List Word) (s : Reader) → added h Ignored w s ≡ s
ignored_added h w s = λ i. record { heads = append-nil s.heads i; direction = or_else-none s.direction i; rows = rows_same w s.rows i; columns = columns_same s.rows w s.columns i; sides = sides_same s.rows w s.sides i; ranges = ranges_same s.rows w s.ranges i; bounds = bounds_same s.columns.names w s.bounds i; indicators = indicators_same s.rows s.columns.names w s.indicators i }

first_listed : {X : Type 0} (o : Option X) → first_of (listed o) ≡ o
first_listed None = refl
first_listed (Some x) = refl

section_added : (h : Option Head) (w : List Word) (s : Reader) → added h Section w s ≡ with_words Section w s
section_added h w s = λ i. record { heads = s.heads ++ heads_in Section w; direction = or_else s.direction (first_of (directions_in h Section w)); rows = rows_same w s.rows i; columns = columns_same s.rows w s.columns i; sides = sides_same s.rows w s.sides i; ranges = ranges_same s.rows w s.ranges i; bounds = bounds_same s.columns.names w s.bounds i; indicators = indicators_same s.rows s.columns.names w s.indicators i }

data_added : (h : Option Head) (w : List Word) (s : Reader) → check_data s h (length w) (word_at w 0) (word_at w 1) (word_at w 2) (word_at w 3) (word_at w 4) ≡ None → added h Data w s ≡ with_data h (length w) (word_at w 0) (word_at w 1) (word_at w 2) (word_at w 3) (word_at w 4) s
data_added (Some Objsense) w s e = λ i. record { heads = append-nil s.heads i; direction = or_else s.direction (first_listed (direction_of (word_at w 0)) i); rows = rows_same w s.rows i; columns = columns_same s.rows w s.columns i; sides = sides_same s.rows w s.sides i; ranges = ranges_same s.rows w s.ranges i; bounds = bounds_same s.columns.names w s.bounds i; indicators = indicators_same s.rows s.columns.names w s.indicators i }
data_added (Some Rows) w s e = λ i. record { heads = append-nil s.heads i; direction = or_else-none s.direction i; rows = rows_step w s.rows e i; columns = columns_same s.rows w s.columns i; sides = sides_same s.rows w s.sides i; ranges = ranges_same s.rows w s.ranges i; bounds = bounds_same s.columns.names w s.bounds i; indicators = indicators_same s.rows s.columns.names w s.indicators i }
data_added (Some Columns) w s e = λ i. record { heads = append-nil s.heads i; direction = or_else-none s.direction i; rows = rows_same w s.rows i; columns = columns_step s.rows w s.columns i; sides = sides_same s.rows w s.sides i; ranges = ranges_same s.rows w s.ranges i; bounds = bounds_same s.columns.names w s.bounds i; indicators = indicators_same s.rows s.columns.names w s.indicators i }
data_added (Some Rhs) w s e = λ i. record { heads = append-nil s.heads i; direction = or_else-none s.direction i; rows = rows_same w s.rows i; columns = columns_same s.rows w s.columns i; sides = sides_added true s.rows w s.sides; ranges = ranges_same s.rows w s.ranges i; bounds = bounds_same s.columns.names w s.bounds i; indicators = indicators_same s.rows s.columns.names w s.indicators i }
data_added (Some Ranges) w s e = λ i. record { heads = append-nil s.heads i; direction = or_else-none s.direction i; rows = rows_same w s.rows i; columns = columns_same s.rows w s.columns i; sides = sides_same s.rows w s.sides i; ranges = ranges_added true s.rows w s.ranges; bounds = bounds_same s.columns.names w s.bounds i; indicators = indicators_same s.rows s.columns.names w s.indicators i }
data_added (Some Bounds) w s e = λ i. record { heads = append-nil s.heads i; direction = or_else-none s.direction i; rows = rows_same w s.rows i; columns = columns_same s.rows w s.columns i; sides = sides_same s.rows w s.sides i; ranges = ranges_same s.rows w s.ranges i; bounds = bounds_added true s.columns.names w s.bounds; indicators = indicators_same s.rows s.columns.names w s.indicators i }
data_added (Some Indicators) w s e = λ i. record { heads = append-nil s.heads i; direction = or_else-none s.direction i; rows = rows_same w s.rows i; columns = columns_same s.rows w s.columns i; sides = sides_same s.rows w s.sides i; ranges = ranges_same s.rows w s.ranges i; bounds = bounds_same s.columns.names w s.bounds i; indicators = indicators_added true s.rows s.columns.names w s.indicators }
data_added (Some Name) w s e = name_added w s
data_added (Some Endata) w s e = endata_added w s
data_added None w s e = same w s

words_added : (k : LineKind) (w : List Word) (s : Reader) → check_words s k w ≡ None → added (last_of s.heads) k w s ≡ with_words k w s
words_added Ignored w s e = ignored_added (last_of s.heads) w s
words_added Section w s e = section_added (last_of s.heads) w s
words_added Data w s e = data_added (last_of s.heads) w s e

pub unless_ok : (o : Option FaultKind) (s t : Reader) → unless o s ≡ Ok t → (o ≡ None) × (s ≡ t)
unless_ok None s t e = (refl, cc)
unless_ok (Some kind) s t e = cc

unless_err : (o : Option FaultKind) (s : Reader) (kind : FaultKind) → unless o s ≡ Err kind → o ≡ Some kind
unless_err None s kind e = cc
unless_err (Some other) s kind e = cc

pub no_facts : start ≡ facts []
unfolding facts heads direction row_list row_names row_kinds objective_row column_list column_names is_open integers terms side_list side_set sides range_list range_set ranges bound_list bound_set bounds indicator_list indicator_names indicator_rows
no_facts = refl

heads_of : (before : List Line) → section_behind before ≡ last_of (facts before).heads
unfolding facts
heads_of before = refl

-- a line that the reader takes passes, and the reader then holds what the lines through it say
pub taken : (before : List Line) (l : Line) (s t : Reader) → s ≡ facts before → step s l ≡ Ok t → (check before l ≡ None) × (t ≡ facts (before ++ l ∷ []))
unfolding step check
taken before l s t f e =
    let e2 : unless (check_words (facts before) l.kind l.words) (with_words l.kind l.words (facts before)) ≡ Ok t = ap (λ (x : Reader). unless (check_words x l.kind l.words) (with_words l.kind l.words x)) (sym f) ∙ e in
    let r = unless_ok (check_words (facts before) l.kind l.words) (with_words l.kind l.words (facts before)) t e2 in
    (r.0, sym r.1 ∙ (sym (words_added l.kind l.words (facts before) r.0) ∙ (ap (λ (h : Option Head). added h l.kind l.words (facts before)) (sym (heads_of before)) ∙ sym (facts_more before l))))

-- a line that the reader refuses doesn't pass
pub refused : (before : List Line) (l : Line) (s : Reader) (kind : FaultKind) → s ≡ facts before → step s l ≡ Err kind → check before l ≡ Some kind
unfolding step check
refused before l s kind f e =
    let e2 : unless (check_words (facts before) l.kind l.words) (with_words l.kind l.words (facts before)) ≡ Err kind = ap (λ (x : Reader). unless (check_words x l.kind l.words) (with_words l.kind l.words x)) (sym f) ∙ e in
    unless_err (check_words (facts before) l.kind l.words) (with_words l.kind l.words (facts before)) kind e2
