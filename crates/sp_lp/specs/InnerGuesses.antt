-- Where names stand, by short names as numbers.
use Rattle.std.specs.Prelude.{◌≡◌, ℕ, ◌+◌, ◌*◌, ◌^◌, ◌<◌, List, [], ◌∷◌, Some, All}
use Rattle.sp_draft.specs.Names.{Name, find_name}

abbrev pub IsByte : ℕ → Type 0
IsByte b = b < 256

-- a name as a number: no two names have the same, and none has 0
abbrev pub key_of : Name → ℕ
key_of [] = 1
key_of (b ∷ bs) = b + 256 * key_of bs

-- the guess says that the name with the number stands at the place
pub record IsGuessOf (key place guess : ℕ) : Type 0 where
  pub small : place < 2 ^ 31
  pub sum : guess ≡ key * 2 ^ 31 + place

-- a name of which it is a guess stands where the guess says
abbrev pub IsTrueOf : List Name → ℕ → Type 0
IsTrueOf names guess = (name : Name) (place : ℕ) → All IsByte name → IsGuessOf (key_of name) place guess → find_name names name ≡ Some place

abbrev pub AreTrueOf : List Name → List ℕ → Type 0
AreTrueOf names guesses = All (IsTrueOf names) guesses
