-- The terms of each variable, by row.
use Rattle.std.specs.Prelude.{◌↔◌, ℕ, suc, ◌<◌, ◌==◌, cond, List, [], ◌∷◌, ◌++◌, length, AllPairs, Contains, ℤ}
use Rattle.sp_model.specs.declared.parts.Row.{Row}
use Rattle.sp_model.specs.Sums.{Term}
use Rattle.sp_sums.specs.Rows.{row_at}

-- a row with its coefficient
abbrev pub Entry : Type 0
Entry = ℕ × ℤ

-- the variable's entries from the terms of row k
abbrev pub entries_of : ℕ → ℕ → List Term → List Entry
entries_of j k [] = []
entries_of j k (t ∷ ts) = cond (t.0 == j) ((k, t.1) ∷ entries_of j k ts) (entries_of j k ts)

-- the variable's entries from the rows, whose first is row k
abbrev pub column_from : ℕ → ℕ → List Row → List Entry
column_from j k [] = []
column_from j k (row ∷ rows) = entries_of j k row.terms ++ column_from j (suc k) rows

-- the variable's entries
abbrev pub column_of : ℕ → List Row → List Entry
column_of j rows = column_from j 0 rows

-- by rising row, exactly the terms of the variable
pub record IsColumn (j : ℕ) (rows : List Row) (entries : List Entry) : Type 0 where
  pub rising : AllPairs (λ e f. e.0 < f.0) entries
  pub exact : (k : ℕ) (a : ℤ) → Contains entries (k, a) ↔ ((k < length rows) × Contains (row_at rows k).terms (j, a))
