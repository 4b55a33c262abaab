-- What was read so far is within the limit, and was taken from the front of the reader.
use Rattle.std.proofs.Common.{◌≤◌, ◌-◌, vec_len}
use Rattle.std.specs.Io.KnownBytes.{Consumes}
use Rattle.solpool.proofs.reading.contents.Given as goal

abbrev pub invariant-loop-bytes : goal.invariant-loop-bytes
invariant-loop-bytes g l =
    (vec_len l.bytes ≤ l.limit)
    × Consumes (g.F.Read.remaining l.initial.source.inner) (g.F.Read.remaining l.source.inner) l.bytes.items
    × (l.initial.source.faults ≤ l.source.faults)

abbrev pub decreases-loop-bytes : goal.decreases-loop-bytes
decreases-loop-bytes g l = l.limit - vec_len l.bytes
