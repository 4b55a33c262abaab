-- What private functions say of the lists that are stated so far.
use Rattle.std.specs.Prelude.{◌≡◌, ◌≢◌, ℕ, ◌-◌, ◌^◌, ◌≤◌, cond, List, [], ◌∷◌, ◌++◌, length, take, ℤ, pos, unsigned_abs}
use Rattle.std.specs.Ordering.{int_eq}
use Rattle.sp_dual.specs.Lists.{MultiplierList}
use Rattle.sp_bound.specs.StatedLists.{new_lists, single_list}

-- the lists so far with those that come, up to 65 in all
abbrev pub more_lists : List MultiplierList → List MultiplierList → List MultiplierList
more_lists seen rest = seen ++ take (65 - length seen) (new_lists seen rest)

-- these lists came, whatever comes after them
pub record AddsLists (added old new : List MultiplierList) : Type 0 where
  pub each : (rest : List MultiplierList) → more_lists new rest ≡ more_lists old (added ++ rest)

-- the list of a coefficient and a cost, none where the cost is 0
abbrev pub lists_with : ℕ → ℤ → ℤ → List MultiplierList
lists_with i a c = cond (int_eq c (pos 0)) [] (single_list i a c ∷ [])

pub record IsSmall (v : ℤ) : Type 0 where
  pub small : unsigned_abs v ≤ 10 ^ 36

-- a small number other than 0
pub record IsFactor (v : ℤ) : Type 0 where
  pub nonzero : v ≢ pos 0
  pub small : unsigned_abs v ≤ 10 ^ 36
