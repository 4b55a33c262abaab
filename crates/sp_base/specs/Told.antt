-- What an object outside tells of its content: the bytes, or nothing at all. Each change is one equation
-- of what is told before and after, so that nothing told before is nothing told after, and the other way round.
use Rattle.std.specs.Prelude.{◌≡◌, ℕ, List, ◌++◌, Option}
use Rattle.std.specs.Option.{option_map}

-- what is told once these bytes have come at the end
unfoldable pub append : Option (List ℕ) → List ℕ → Option (List ℕ)
append told bytes = option_map (λ held. held ++ bytes) told

-- what is told where these bytes stand in front
unfoldable pub prepend : List ℕ → Option (List ℕ) → Option (List ℕ)
prepend bytes told = option_map (λ left. bytes ++ left) told

-- some front part of the bytes has come at the end, and nothing more
pub record AppendsPart (old new : Option (List ℕ)) (bytes : List ℕ) : Type 0 where
  pub part : List ℕ
  pub rest : List ℕ
  pub whole : bytes ≡ part ++ rest
  pub told : new ≡ append old part

-- what was there is still there, and at most some bytes have come behind it
pub record Grows (old new : Option (List ℕ)) : Type 0 where
  pub more : List ℕ
  pub told : new ≡ append old more
