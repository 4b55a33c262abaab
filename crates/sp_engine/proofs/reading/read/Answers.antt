use Rattle.std.proofs.Common.{◌∙◌, sym, ap}
use Rattle.sp_engine.specs.Views.{limit_after}
use Rattle.sp_engine.proofs.ReadLemmas.{bytes_say, bytes_run, bytes_answered, absent_says, too_long_says, failed_says, nothing_says}
use Rattle.sp_engine.proofs.reading.read.Goals as goal

pub returns-in-Bytes-clause-says : goal.returns-in-Bytes-clause-says
returns-in-Bytes-clause-says g c =
    λ view f n. bytes_say _ _ _ _ _ (c.read_bytes.ensures _ c.requires) c.in-Bytes.ensures.answer view f (ap limit_after n ∙ sym c.limit_after.ensures)

pub returns-in-Bytes-clause-runnable : goal.returns-in-Bytes-clause-runnable
returns-in-Bytes-clause-runnable g c = bytes_run _ _ _ (c.read_bytes.ensures _ c.requires)

pub returns-in-Bytes-clause-noted : goal.returns-in-Bytes-clause-noted
returns-in-Bytes-clause-noted g c =
    bytes_answered _ _ _ _ _ (c.read_bytes.ensures _ c.requires) c.read.ensures.unchanged c.in-Bytes.ensures.counted c.read.ensures.absences_later
    c.read.ensures.overruns_later c.read.ensures.faults_later

pub returns-in-Absent-clause-says : goal.returns-in-Absent-clause-says
returns-in-Absent-clause-says g c = λ view f n. absent_says _ _ _ c.in-Absent.ensures.answer view f (ap limit_after n ∙ sym c.limit_after.ensures)

pub returns-in-TooLong-clause-says : goal.returns-in-TooLong-clause-says
returns-in-TooLong-clause-says g c = λ view f n. too_long_says _ _ _ c.in-TooLong.ensures.answer view f (ap limit_after n ∙ sym c.limit_after.ensures)

pub returns-in-Failed-clause-says : goal.returns-in-Failed-clause-says
returns-in-Failed-clause-says g c = λ view f n. failed_says _ _ _ c.in-Failed.ensures.answer view f (ap limit_after n ∙ sym c.limit_after.ensures)

pub returns-in-NoMemory-clause-says : goal.returns-in-NoMemory-clause-says
returns-in-NoMemory-clause-says g c = λ view f l. nothing_says _ view
