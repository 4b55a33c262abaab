use Rattle.std.proofs.Common.{◌≡◌, subst}
use Rattle.std.specs.Prelude.{List, Option, Some, None, IfSome}
use Rattle.sp_words.specs.Rows.{Row}
use Rattle.sp_words.specs.Words.{rows_in}
use Rattle.sp_words.specs.declared.keywords.Words.{Words}
use Rattle.sp_mps_words.specs.Heads.{head_rows}
use Rattle.sp_mps_words.proofs.tables.head_table.Goals as goal

-- the rows of a table that was made
made : (rows : List Row) (made : Option (Words 9)) (table : Words 9) → made ≡ Some table → IfSome made (λ t. rows_in t ≡ rows) → rows_in table ≡ rows
made rows o table e h = let P : Option (Words 9) → Type 0 = λ m. IfSome m (λ t. rows_in t ≡ rows) in subst P e h

pub returns : goal.returns
returns c = record { rows = made head_rows c.new.result c.unwrap.result c.unwrap.ensures c.new.ensures.rows }
