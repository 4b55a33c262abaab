-- The tables of the words of LP files.
use Rattle.std.specs.Prelude.{◌≡◌, ℕ, Bool, List, [], ◌∷◌, Option, option_and_then, codes, is_some}
use Rattle.std.specs.List.{zip}
use Rattle.sp_words.specs.Spellings.{spellings}
use Rattle.sp_words.specs.Rows.{Row, code_of}
use Rattle.sp_words.specs.Words.{rows_in}
use Rattle.sp_words.specs.declared.keywords.Words.{Words}
use Rattle.sp_lp_words.specs.declared.sections.Part.{Part}
use Rattle.sp_lp_words.specs.Sections.{part_for, direction_for}

-- the words and parts of words that begin sections, each with its code
abbrev pub section_rows : List Row
section_rows = zip
    (spellings (codes "st s.t. st. bounds bound general generals gen integer integers int binary binaries bin sos end semis semi continuous subject to such that lazy constraints user cuts"))
    (1 ∷ 1 ∷ 1 ∷ 2 ∷ 2 ∷ 3 ∷ 3 ∷ 3 ∷ 3 ∷ 3 ∷ 3 ∷ 4 ∷ 4 ∷ 4 ∷ 5 ∷ 6 ∷ 7 ∷ 8 ∷ 9 ∷ 10 ∷ 11 ∷ 12 ∷ 13 ∷ 14 ∷ 15 ∷ 16 ∷ 17 ∷ [])

pub record HasSections (table : Words 27) : Type 0 where
  pub rows : rows_in table ≡ section_rows

-- the words that begin an objective, each with its code
abbrev pub objective_rows : List Row
objective_rows = zip (spellings (codes "minimize minimum min maximize maximum max")) (1 ∷ 1 ∷ 1 ∷ 2 ∷ 2 ∷ 2 ∷ [])

pub record HasObjectives (table : Words 6) : Type 0 where
  pub rows : rows_in table ≡ objective_rows

-- the words for infinity
abbrev pub infinity_rows : List Row
infinity_rows = zip (spellings (codes "inf infinity")) (1 ∷ 1 ∷ [])

pub record HasInfinities (table : Words 2) : Type 0 where
  pub rows : rows_in table ≡ infinity_rows

-- what a word may be of a section word, whatever the case of its letters
unfoldable pub part_of : List ℕ → Option Part
part_of word = option_and_then part_for (code_of word section_rows)

-- the direction that a word asks for, whatever the case of its letters
unfoldable pub direction_of : List ℕ → Option Part
direction_of word = option_and_then direction_for (code_of word objective_rows)

-- the word stands for infinity, whatever the case of its letters
unfoldable pub is_infinity : List ℕ → Bool
is_infinity word = is_some (code_of word infinity_rows)
