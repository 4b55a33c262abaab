-- What a table keeps of its entries.
use Rattle.std.specs.Prelude.{ℕ, List}
use Rattle.std.specs.List.{All}
use Rattle.sp_words.specs.Spellings.{IsTable}
use Rattle.sp_words.specs.Rows.{words_of}
use Rattle.sp_words.specs.InnerEntries.{IsWithin, rows_of}
use Rattle.sp_words.specs.declared.entries.Entry.{Entry}

pub record IsKept (n : ℕ) (text : List ℕ) (entries : List Entry) : Type 0 where
  pub within : All (IsWithin text) entries
  pub table : IsTable n (words_of (rows_of text entries))
