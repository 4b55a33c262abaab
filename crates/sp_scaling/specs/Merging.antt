-- How terms in order of their variables are put together, one after another.
use Rattle.std.specs.Prelude.{ℕ, ◌==◌, if◌then◌else◌, List, [], ◌∷◌, ◌++◌, ℤ, ◌+ℤ◌}
use Rattle.sp_model.specs.Models.{is_nonzero}
use Rattle.sp_model.specs.Sums.{Term}

-- the term, unless its coefficient is 0
abbrev pub emitted : ℕ → ℤ → List Term
emitted j v = if is_nonzero v then (j, v) ∷ [] else []

-- the terms behind a variable with its coefficient so far, neighbours with one variable put together
abbrev pub merged : ℕ → ℤ → List Term → List Term
merged j v [] = emitted j v
merged j v (t ∷ ts) = if t.0 == j then merged j (v +ℤ t.1) ts else emitted j v ++ merged t.0 t.1 ts
