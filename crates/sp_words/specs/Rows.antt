-- The rows of a table: what a word stands for there.
use Rattle.std.specs.Prelude.{ℕ, List, [], ◌∷◌, map, IsTrue, cond, Option, Some, None}
use Rattle.std.specs.List.{Contains}
use Rattle.sp_words.specs.Spellings.{same_word}

-- a spelling with its code
abbrev pub Row : Type 0
Row = List ℕ × ℕ

-- the spellings of the rows
abbrev pub words_of : List Row → List (List ℕ)
words_of rows = map (λ (row : Row). row.0) rows

-- the code of the first row that is the word
abbrev pub code_of : List ℕ → List Row → Option ℕ
code_of word [] = None
code_of word (row ∷ rows) = cond (same_word word row.0) (Some row.1) (code_of word rows)

-- some row has the code, and a spelling that is the word
pub record IsCodeFor (rows : List Row) (word : List ℕ) (code : ℕ) : Type 0 where
  pub spelling : List ℕ
  pub among : Contains rows (spelling, code)
  pub same : IsTrue (same_word word spelling)
