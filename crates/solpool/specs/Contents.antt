-- What an answer says of the bytes that a reader had left, where these are known, and which answer an error gets.
use Rattle.std.specs.Prelude.{◌≡◌, ℕ, ◌<◌, List, length, Option, IfSome}
use Rattle.std.specs.declared.io.ErrorKind.{ErrorKind}
use Rattle.std.specs.declared.io.ErrorKind.TheVariants as kind
use Rattle.sp_base.specs.declared.shelves.Fetched.{Fetched}
use Rattle.sp_base.specs.declared.shelves.Fetched.TheVariants as fetched

-- Bytes: all that were left. TooLong: more than `limit` were left. What can be read is there.
abbrev pub IsContentsOf : Fetched → Option (List ℕ) → ℕ → Type 0
IsContentsOf (fetched.Bytes bytes) left limit = IfSome left (λ all. bytes ≡ all)
IsContentsOf fetched.Absent left limit = ⊥
IsContentsOf fetched.TooLong left limit = IfSome left (λ all. limit < length all)
IsContentsOf fetched.Failed left limit = Unit {0}
IsContentsOf fetched.NoMemory left limit = Unit {0}

-- the same of a file that the system may have said to be too long: Bytes are all that were left
abbrev pub IsReadFrom : Fetched → Option (List ℕ) → Type 0
IsReadFrom (fetched.Bytes bytes) left = IfSome left (λ all. bytes ≡ all)
IsReadFrom fetched.Absent left = ⊥
IsReadFrom fetched.TooLong left = Unit {0}
IsReadFrom fetched.Failed left = Unit {0}
IsReadFrom fetched.NoMemory left = Unit {0}

-- the answer where a file can't be opened
abbrev pub refusal_of : ErrorKind → Fetched
refusal_of kind.NotFound = fetched.Absent
refusal_of kind.OutOfMemory = fetched.NoMemory
refusal_of _ = fetched.Failed
