-- What an answer of a sink says of the bytes that it held, the bytes that it holds now, and the piece.
use Rattle.std.specs.Prelude.{◌≡◌, ℕ, ◌<◌, ◌≤◌, List, length, take, Option}
use Rattle.sp_base.specs.Told.{append}
use Rattle.sp_base.specs.declared.sinks.Put.{Put}
use Rattle.sp_base.specs.declared.sinks.Put.TheVariants.{Took, Failed, NoMemory}

-- Took n: the first n bytes of the piece came at the end, and n is from 1 to the piece's length.
-- Failed, NoMemory: what is held is as it was.
abbrev pub Takes : Put → Option (List ℕ) → Option (List ℕ) → List ℕ → Type 0
Takes (Took n) old new piece = (0 < n) × (n ≤ length piece) × (new ≡ append old (take n piece))
Takes Failed old new piece = new ≡ old
Takes NoMemory old new piece = new ≡ old
