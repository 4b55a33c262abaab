-- Tables that are made of texts that are written out.
use Rattle.std.proofs.Common.{◌≡◌, ℕ, List, Option, Some, subst}
use Rattle.std.specs.Prelude.{IfSome}
use Rattle.sp_words.specs.Rows.{Row}
use Rattle.sp_words.specs.Words.{rows_in}
use Rattle.sp_words.specs.declared.keywords.Words.{Words}

-- the rows of a table that was made
pub made : (n : ℕ) (rows : List Row) (made : Option (Words n)) (table : Words n) → made ≡ Some table → IfSome made (λ t. rows_in t ≡ rows) → rows_in table ≡ rows
made n rows o table e h = let P : Option (Words n) → Type 0 = λ m. IfSome m (λ t. rows_in t ≡ rows) in subst P e h
