-- The words of markers and of indicators.
use Rattle.std.specs.Prelude.{◌≡◌, ℕ, Bool, true, false, ◌&&◌, ◌==◌, if◌then◌else◌, List, [], ◌∷◌, Option, Some, None, codes}
use Rattle.std.specs.List.{zip}
use Rattle.sp_words.specs.Spellings.{spellings}
use Rattle.sp_words.specs.Rows.{Row, code_of}
use Rattle.sp_words.specs.Words.{rows_in}
use Rattle.sp_words.specs.declared.keywords.Words.{Words}
use Rattle.sp_mps_words.specs.Words.{Word}

-- the words of markers and of indicators, each with its code
abbrev pub mark_rows : List Row
mark_rows = zip (spellings (codes "'marker' 'intorg' 'intend' if")) (1 ∷ 2 ∷ 3 ∷ 4 ∷ [])

pub record HasMarks (table : Words 4) : Type 0 where
  pub rows : rows_in table ≡ mark_rows

unfoldable pub mark_code : Word → Option ℕ
mark_code word = code_of word mark_rows

abbrev pub is_code : ℕ → Option ℕ → Bool
is_code wanted None = false
is_code wanted (Some code) = code == wanted

-- the word is 'MARKER', whatever the case of its letters
abbrev pub is_marker_word : Word → Bool
is_marker_word word = is_code 1 (mark_code word)

-- a line of so many words with this second one is a marker line
abbrev pub is_marker : ℕ → Word → Bool
is_marker count second = (count == 3) && is_marker_word second

abbrev pub mark_for : ℕ → Option Bool
mark_for code = if code == 2 then Some true else (if code == 3 then Some false else None)

abbrev pub mark_from : Option ℕ → Option Bool
mark_from None = None
mark_from (Some code) = mark_for code

-- whether a marker opens ('INTORG') or closes ('INTEND'), whatever the case of its letters
abbrev pub mark_of : Word → Option Bool
mark_of word = mark_from (mark_code word)

-- the word is IF, whatever the case of its letters
abbrev pub is_if : Word → Bool
is_if word = is_code 4 (mark_code word)
