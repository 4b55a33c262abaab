-- What the entries of a table say of its text.
use Rattle.std.specs.Prelude.{◌≡◌, ℕ, ◌≤◌, List, length, map, slice_range}
use Rattle.std.specs.List.{All, zip}
use Rattle.sp_words.specs.Spellings.{spellings}
use Rattle.sp_words.specs.Rows.{Row}
use Rattle.sp_words.specs.declared.entries.Entry.{Entry}

-- the entry lies in the text
pub record IsWithin (text : List ℕ) (entry : Entry) : Type 0 where
  pub rising : entry.start ≤ entry.end
  pub ends : entry.end ≤ length text

-- the spelling that the entry cuts from the text
abbrev pub spelling_at : List ℕ → Entry → List ℕ
spelling_at text entry = slice_range text entry.start entry.end

abbrev pub row_at : List ℕ → Entry → Row
row_at text entry = (spelling_at text entry, entry.code)

abbrev pub rows_of : List ℕ → List Entry → List Row
rows_of text entries = map (row_at text) entries

-- the entries are those of the spellings in the text, each with its code
pub record IsCut (n : ℕ) (text codes : List ℕ) (entries : List Entry) : Type 0 where
  pub count : length (spellings text) ≡ n
  pub room : length entries ≡ n
  pub within : All (IsWithin text) entries
  pub rows : rows_of text entries ≡ zip (spellings text) codes
