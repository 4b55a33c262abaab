use Rattle.std.proofs.Common.{◌+◌, ◌≤◌, length}
use Rattle.sp_mps_words.specs.Lines.{lines_of}
use Rattle.sp_mps.proofs.PlaceLemmas.{Stands}
use Rattle.sp_mps.proofs.reading.read.Given as goal

abbrev pub invariant-lines : goal.invariant-lines
invariant-lines l = record {
  stands : Stands (lines_of l.bytes) l.count l.rest l.reader;
  short : l.count + length l.rest ≤ length l.bytes;
}

abbrev pub decreases-lines : goal.decreases-lines
decreases-lines l = length l.rest
