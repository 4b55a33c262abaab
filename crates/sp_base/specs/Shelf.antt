-- Files by name, and what an answer of a shelf says of them.
use Rattle.std.specs.Prelude.{◌≡◌, ℕ, ◌<◌, ◌≤◌, List, ◌++◌, length, Option, None, Some, IfSome, IsSomeAnd, ◌⊎◌}
use Rattle.std.specs.Option.{option_map}
use Rattle.std.specs.FinMap.{FinMap, get, insert}
use Rattle.std.specs.Ordering.{nat_cmp}
use Rattle.std.specs.Cmp.Lexicographic.{slice_cmp}
use Rattle.sp_base.specs.Counts.{raised}
use Rattle.sp_base.specs.declared.shelves.Fetched.{Fetched}
use Rattle.sp_base.specs.declared.shelves.Fetched.TheVariants as fetched
use Rattle.sp_base.specs.declared.shelves.Stored.{Stored}
use Rattle.sp_base.specs.declared.shelves.Stored.TheVariants as stored

-- the bytes of each file, by the bytes of its name
abbrev pub Files : Type 0
Files = FinMap (slice_cmp nat_cmp) (List ℕ)

-- the bytes of the file of this name, where it is there
abbrev pub file : Files → List ℕ → Option (List ℕ)
file files name = get files name

-- the files with this one set to these bytes, and all others as they were
abbrev pub with_file : Files → List ℕ → List ℕ → Files
with_file files name bytes = insert files name bytes

-- what is told of the files once one is set
unfoldable pub set_file : Option Files → List ℕ → List ℕ → Option Files
set_file told name bytes = option_map (λ files. with_file files name bytes) told

-- some front part of the bytes is the file of this name, and all other files are as they were
pub record SetsPart (old new : Option Files) (name bytes : List ℕ) : Type 0 where
  pub part : List ℕ
  pub rest : List ℕ
  pub whole : bytes ≡ part ++ rest
  pub told : new ≡ set_file old name part

-- Bytes: at most `limit` bytes, those of the file. Absent: no such file. TooLong: the file has more than `limit` bytes.
abbrev pub Fetches : Fetched → Option Files → List ℕ → ℕ → Type 0
Fetches (fetched.Bytes bytes) told name limit = (length bytes ≤ limit) × IfSome told (λ files. file files name ≡ Some bytes)
Fetches fetched.Absent told name limit = IfSome told (λ files. file files name ≡ None)
Fetches fetched.TooLong told name limit = IfSome told (λ files. IsSomeAnd (file files name) (λ bytes. limit < length bytes))
Fetches fetched.Failed told name limit = Unit {0}
Fetches fetched.NoMemory told name limit = Unit {0}

-- Kept: the file is set. Failed: the files are as they were, or a front part of the bytes was written.
-- NoMemory: the files are as they were.
abbrev pub Stores : Stored → Option Files → Option Files → List ℕ → List ℕ → Type 0
Stores stored.Kept old new name bytes = new ≡ set_file old name bytes
Stores stored.Failed old new name bytes = (new ≡ old) ⊎ SetsPart old new name bytes
Stores stored.NoMemory old new name bytes = new ≡ old

-- the count of answers after this answer to a read: want of memory is none
abbrev pub answers_after_read : Fetched → ℕ → ℕ
answers_after_read (fetched.Bytes _) answers = raised answers
answers_after_read fetched.Absent answers = raised answers
answers_after_read fetched.TooLong answers = raised answers
answers_after_read fetched.Failed answers = raised answers
answers_after_read fetched.NoMemory answers = answers

-- the count of answers after this answer to a write: want of memory is none
abbrev pub answers_after_write : Stored → ℕ → ℕ
answers_after_write stored.Kept answers = raised answers
answers_after_write stored.Failed answers = raised answers
answers_after_write stored.NoMemory answers = answers
