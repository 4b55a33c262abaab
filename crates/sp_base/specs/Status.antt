-- The numbers of the ways in which a run ends.
use Rattle.std.specs.Prelude.{ℕ}
use Rattle.sp_base.specs.declared.statuses.Status.{Status}
use Rattle.sp_base.specs.declared.statuses.Status.TheVariants.{Clean, SomeRefused, Usage, SourceFault, SinkFault, NoMemory, StreamTooLong}

-- the exit status of a program whose run ended so
abbrev pub code_of : Status → ℕ
code_of Clean = 0
code_of SomeRefused = 1
code_of Usage = 2
code_of SourceFault = 3
code_of SinkFault = 4
code_of NoMemory = 5
code_of StreamTooLong = 6
