-- What an answer of a source says of the bytes that were left, the bytes that are left now, and the buffer.
use Rattle.std.specs.Prelude.{◌≡◌, ℕ, ◌<◌, ◌≤◌, List, [], length, take, Option, IfSome}
use Rattle.sp_base.specs.Told.{prepend}
use Rattle.sp_base.specs.declared.sources.Got.{Got}
use Rattle.sp_base.specs.declared.sources.Got.TheVariants.{Bytes, End, Failed}

-- Bytes n: the first n bytes of the buffer stood in front of what is left, and n is from 1 to the buffer's length.
-- End: nothing was left. Failed: what is left is as it was.
abbrev pub Gives : Got → Option (List ℕ) → Option (List ℕ) → List ℕ → Type 0
Gives (Bytes n) old new buffer = (0 < n) × (n ≤ length buffer) × (old ≡ prepend (take n buffer) new)
Gives End old new buffer = (new ≡ old) × IfSome old (λ left. left ≡ [])
Gives Failed old new buffer = new ≡ old
