-- Which items have a variable, and truths of items that are found anew where it changed.
use Rattle.std.specs.Prelude.{◌≡◌, ◌⊎◌, ℕ, ◌<◌, Bool, false, List, [], ◌∷◌, length, map, slice_index_or, All, Contains}
use Rattle.sp_model.specs.declared.parts.Indicator.{Indicator}
use Rattle.sp_model.specs.declared.parts.Sos.{Sos}
use Rattle.sp_model.specs.Stated.{Core}

-- the items of a variable, none past the last one
abbrev pub uses_at : List (List ℕ) → ℕ → List ℕ
uses_at lists j = slice_index_or lists j []

-- the variables of an item
abbrev pub vars_at : List (List ℕ) → ℕ → List ℕ
vars_at items k = slice_index_or items k []

-- for each of so many variables a list of known items, in which each item stands that has the variable
pub record AreUses (count : ℕ) (items lists : List (List ℕ)) : Type 0 where
  pub long : length lists ≡ count
  pub known : (j : ℕ) → All (λ k. k < length items) (uses_at lists j)
  pub covers : (j k : ℕ) → j < count → k < length items → Contains (vars_at items k) j → Contains (uses_at lists j) k

-- the variables of indicators, sets and cores
abbrev pub gate_vars : Indicator → List ℕ
gate_vars i = i.var ∷ map (λ t. t.0) i.row.terms

abbrev pub set_vars : Sos → List ℕ
set_vars set = set.vars

abbrev pub core_vars : Core → List ℕ
core_vars c = c.0 ∷ []

-- the truths are the target's but for the places that are left
pub record IsSettling (target : List Bool) (rest : List ℕ) (now : List Bool) : Type 0 where
  pub long : length now ≡ length target
  pub known : All (λ k. k < length target) rest
  pub each : (k : ℕ) → k < length target → ¬ Contains rest k → slice_index_or now k false ≡ slice_index_or target k false

-- an item came to the lists of these variables: it stands there now, what stood before still does, and nothing else came
pub record IsUsed (item : ℕ) (vars : List ℕ) (old new : List (List ℕ)) : Type 0 where
  pub long : length new ≡ length old
  pub here : (j : ℕ) → Contains vars j → Contains (uses_at new j) item
  pub more : (j k : ℕ) → Contains (uses_at old j) k → Contains (uses_at new j) k
  pub only : (j k : ℕ) → Contains (uses_at new j) k → (k ≡ item) ⊎ Contains (uses_at old j) k
