-- The heads of sections.
use Rattle.std.specs.Prelude.{◌≡◌, ℕ, ◌==◌, if◌then◌else◌, List, [], ◌∷◌, Option, Some, None, codes}
use Rattle.std.specs.List.{zip}
use Rattle.sp_words.specs.Spellings.{spellings}
use Rattle.sp_words.specs.Rows.{Row, code_of}
use Rattle.sp_words.specs.Words.{rows_in}
use Rattle.sp_words.specs.declared.keywords.Words.{Words}
use Rattle.sp_mps_words.specs.declared.heads.Head.{Head}
use Rattle.sp_mps_words.specs.declared.heads.Head.TheVariants.{Name, Objsense, Rows, Columns, Rhs, Ranges, Bounds, Indicators, Endata}
use Rattle.sp_mps_words.specs.Words.{Word}

-- the heads, each with its code
abbrev pub head_rows : List Row
head_rows =
    zip (spellings (codes "name objsense rows columns rhs ranges bounds indicators endata"))
    (1 ∷ 2 ∷ 3 ∷ 4 ∷ 5 ∷ 6 ∷ 7 ∷ 8 ∷ 9 ∷ [])

pub record HasHeads (table : Words 9) : Type 0 where
  pub rows : rows_in table ≡ head_rows

abbrev pub head_for : ℕ → Option Head
head_for code =
    if code == 1 then Some Name else (
    if code == 2 then Some Objsense else (
    if code == 3 then Some Rows else (
    if code == 4 then Some Columns else (
    if code == 5 then Some Rhs else (
    if code == 6 then Some Ranges else (
    if code == 7 then Some Bounds else (
    if code == 8 then Some Indicators else (
    if code == 9 then Some Endata else None))))))))

abbrev pub head_from : Option ℕ → Option Head
head_from None = None
head_from (Some code) = head_for code

-- the head that a word is, whatever the case of its letters
unfoldable pub head_of : Word → Option Head
head_of word = head_from (code_of word head_rows)
