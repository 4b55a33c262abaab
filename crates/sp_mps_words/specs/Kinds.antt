-- The kinds of rows and of bounds, and the directions of the objective.
use Rattle.std.specs.Prelude.{◌≡◌, ℕ, Bool, true, false, ◌==◌, if◌then◌else◌, List, [], ◌∷◌, Option, Some, None, codes}
use Rattle.std.specs.List.{zip}
use Rattle.sp_words.specs.Spellings.{spellings}
use Rattle.sp_words.specs.Rows.{Row, code_of}
use Rattle.sp_words.specs.Words.{rows_in}
use Rattle.sp_words.specs.declared.keywords.Words.{Words}
use Rattle.sp_mps_words.specs.declared.kinds.RowKind.{RowKind}
use Rattle.sp_mps_words.specs.declared.kinds.RowKind.TheVariants.{Free, Less, Greater, Equal}
use Rattle.sp_mps_words.specs.declared.kinds.BoundKind.{BoundKind}
use Rattle.sp_mps_words.specs.declared.kinds.BoundKind.TheVariants.{Upper, Lower, Fixed, Unbounded, NoLower, NoUpper, Binary, WholeLower, WholeUpper, SemiUpper}
use Rattle.sp_mps_words.specs.Words.{Word}

-- the kinds of rows, each with its code
abbrev pub row_kind_rows : List Row
row_kind_rows = zip (spellings (codes "n l g e")) (1 ∷ 2 ∷ 3 ∷ 4 ∷ [])

pub record HasRowKinds (table : Words 4) : Type 0 where
  pub rows : rows_in table ≡ row_kind_rows

abbrev pub row_kind_for : ℕ → Option RowKind
row_kind_for code =
    if code == 1 then Some Free else (
    if code == 2 then Some Less else (
    if code == 3 then Some Greater else (
    if code == 4 then Some Equal else None)))

abbrev pub row_kind_from : Option ℕ → Option RowKind
row_kind_from None = None
row_kind_from (Some code) = row_kind_for code

-- the kind of row that a word is, whatever the case of its letters
unfoldable pub row_kind_of : Word → Option RowKind
row_kind_of word = row_kind_from (code_of word row_kind_rows)

-- the kinds of bounds, each with its code
abbrev pub bound_kind_rows : List Row
bound_kind_rows = zip (spellings (codes "up lo fx fr mi pl bv li ui sc")) (1 ∷ 2 ∷ 3 ∷ 4 ∷ 5 ∷ 6 ∷ 7 ∷ 8 ∷ 9 ∷ 10 ∷ [])

pub record HasBoundKinds (table : Words 10) : Type 0 where
  pub rows : rows_in table ≡ bound_kind_rows

abbrev pub bound_kind_for : ℕ → Option BoundKind
bound_kind_for code =
    if code == 1 then Some Upper else (
    if code == 2 then Some Lower else (
    if code == 3 then Some Fixed else (
    if code == 4 then Some Unbounded else (
    if code == 5 then Some NoLower else (
    if code == 6 then Some NoUpper else (
    if code == 7 then Some Binary else (
    if code == 8 then Some WholeLower else (
    if code == 9 then Some WholeUpper else (
    if code == 10 then Some SemiUpper else None)))))))))

abbrev pub bound_kind_from : Option ℕ → Option BoundKind
bound_kind_from None = None
bound_kind_from (Some code) = bound_kind_for code

-- the kind of bound that a word is, whatever the case of its letters
unfoldable pub bound_kind_of : Word → Option BoundKind
bound_kind_of word = bound_kind_from (code_of word bound_kind_rows)

-- a line with a bound of this kind has a value
abbrev pub has_value : BoundKind → Bool
has_value Upper = true
has_value Lower = true
has_value Fixed = true
has_value Unbounded = false
has_value NoLower = false
has_value NoUpper = false
has_value Binary = false
has_value WholeLower = true
has_value WholeUpper = true
has_value SemiUpper = true

-- the directions of the objective, each with its code
abbrev pub direction_rows : List Row
direction_rows = zip (spellings (codes "max maximize min minimize")) (1 ∷ 1 ∷ 2 ∷ 2 ∷ [])

pub record HasDirections (table : Words 4) : Type 0 where
  pub rows : rows_in table ≡ direction_rows

abbrev pub direction_for : ℕ → Option Bool
direction_for code =
    if code == 1 then Some true else (
    if code == 2 then Some false else None)

abbrev pub direction_from : Option ℕ → Option Bool
direction_from None = None
direction_from (Some code) = direction_for code

-- whether a word of direction asks to maximise, whatever the case of its letters
unfoldable pub direction_of : Word → Option Bool
direction_of word = direction_from (code_of word direction_rows)
