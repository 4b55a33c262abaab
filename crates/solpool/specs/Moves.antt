-- What an answer of a source or a sink says of the reader or the writer below it, where its bytes are known.
use Rattle.std.specs.Prelude.{ℕ, List, [], take, Option}
use Rattle.std.specs.Io.KnownBytes.{Appends, Consumes, IsAtEnd, Keeps}
use Rattle.sp_base.specs.declared.sources.Got.{Got}
use Rattle.sp_base.specs.declared.sources.Got.TheVariants as got
use Rattle.sp_base.specs.declared.sinks.Put.{Put}
use Rattle.sp_base.specs.declared.sinks.Put.TheVariants as put

-- Bytes n: the first n bytes of the buffer were taken from the reader. End: it has nothing left. Failed: it lost nothing.
abbrev pub Takes : Got → Option (List ℕ) → Option (List ℕ) → List ℕ → Type 0
Takes (got.Bytes n) old new buffer = Consumes old new (take n buffer)
Takes got.End old new buffer = Consumes old new [] × IsAtEnd new
Takes got.Failed old new buffer = Keeps old new

-- Took n: the writer got the first n bytes of the piece. Else it got nothing.
abbrev pub Hands : Put → Option (List ℕ) → Option (List ℕ) → List ℕ → Type 0
Hands (put.Took n) old new piece = Appends old new (take n piece)
Hands put.Failed old new piece = Keeps old new
Hands put.NoMemory old new piece = Keeps old new
