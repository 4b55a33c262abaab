-- The rows of a table.
use Rattle.std.specs.Prelude.{ℕ, List}
use Rattle.sp_words.specs.Rows.{Row}
use Rattle.sp_words.specs.InnerEntries.{rows_of}
use Rattle.sp_words.specs.declared.keywords.Words.{Words}

-- the spellings of the table in their order, each with its code
unfoldable pub rows_in : {n : ℕ} → Words n → List Row
rows_in table = rows_of table.text.now table.entries
