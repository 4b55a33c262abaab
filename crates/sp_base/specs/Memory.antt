-- Sources, sinks and shelves in memory: what they hold, and what they are after each answer.
use Rattle.std.specs.Prelude.{ℕ, ◌==◌, Bool, if◌then◌else◌, List, ◌++◌, take, drop, map, Vec, refl}
use Rattle.std.specs.List.{list_any}
use Rattle.std.specs.declared.alloc.Global.{Global}
use Rattle.std.specs.Coded.{Coded, code_by, coded×, coded_ℕ, coded_list}
use Rattle.std.specs.FinMap as finite
use Rattle.sp_base.specs.Counts.{raised}
use Rattle.sp_base.specs.Shelf.{Files, with_file}
use Rattle.sp_base.specs.declared.shelves.Fetched.{Fetched}
use Rattle.sp_base.specs.declared.shelves.Fetched.TheVariants as fetched
use Rattle.sp_base.specs.declared.shelves.Stored.{Stored}
use Rattle.sp_base.specs.declared.shelves.Stored.TheVariants as stored
use Rattle.sp_base.specs.declared.sources.Got.{Got}
use Rattle.sp_base.specs.declared.sources.Got.TheVariants as got
use Rattle.sp_base.specs.declared.sinks.Put.{Put}
use Rattle.sp_base.specs.declared.sinks.Put.TheVariants as put

-- the calls of an object in memory: which of them fail, how many were made and how many of these failed
pub record CallLog : Type 0 where
  -- the numbers of the calls that fail
  pub failing : List ℕ
  pub calls : ℕ
  pub faults : ℕ

-- a source or a sink in memory whose calls can fail
pub record MemStream : Type 0 where
  -- what a source has left, or what a sink holds
  pub bytes : List ℕ
  -- the greatest number of bytes that one call moves
  pub most : ℕ
  pub log : CallLog

-- a source or a sink in memory whose calls never fail
pub record SureStream : Type 0 where
  pub bytes : List ℕ
  pub most : ℕ

-- whether the next call fails. Calls are numbered from 1; no number is above 2^64 - 1, which all calls from
-- there on have.
abbrev pub fails_next : CallLog → Bool
fails_next log = list_any (λ number. number == raised log.calls) log.failing

-- the log of an object that was never called
abbrev pub new_log : List ℕ → CallLog
new_log failing = record { failing = failing; calls = 0; faults = 0 }

-- the log after one more call, which is a fault where it fails
abbrev pub after_call : CallLog → CallLog
after_call log = record log { calls = raised log.calls; faults = (if fails_next log then raised log.faults else log.faults) }

-- a fact about the number of bytes that a source gave
abbrev pub IfGave : Got → (ℕ → Type 0) → Type 0
IfGave (got.Bytes n) P = P n
IfGave got.End P = Unit {0}
IfGave got.Failed P = Unit {0}

-- a fact about the number of bytes that a sink took
abbrev pub IfTook : Put → (ℕ → Type 0) → Type 0
IfTook (put.Took n) P = P n
IfTook put.Failed P = Unit {0}
IfTook put.NoMemory P = Unit {0}

-- what a source has left after a read with this answer
abbrev pub left_after : Got → List ℕ → List ℕ
left_after (got.Bytes n) left = drop n left
left_after got.End left = left
left_after got.Failed left = left

-- what a sink holds after a write of this piece with this answer
abbrev pub held_after : Put → List ℕ → List ℕ → List ℕ
held_after (put.Took n) held piece = held ++ take n piece
held_after put.Failed held piece = held
held_after put.NoMemory held piece = held

-- a shelf in memory whose calls can fail
pub record MemFiles : Type 0 where
  pub files : Files
  -- how many reads named no file
  pub absences : ℕ
  -- how many reads met a file that was too long
  pub overruns : ℕ
  -- how many reads and writes were answered
  pub answers : ℕ
  pub log : CallLog

-- a shelf in memory whose calls never fail
pub record SureFiles : Type 0 where
  pub files : Files
  pub absences : ℕ
  pub overruns : ℕ
  pub answers : ℕ

-- the files of a list of names with their bytes; where a name stands twice, the first counts
abbrev pub files_of : List (List ℕ × Vec ℕ Global) → Files
files_of entries = finite.from_entries (map (λ entry. (entry.0, entry.1.items)) entries)

-- the count of absences after a read with this answer
abbrev pub absences_after : Fetched → ℕ → ℕ
absences_after (fetched.Bytes _) absences = absences
absences_after fetched.Absent absences = raised absences
absences_after fetched.TooLong absences = absences
absences_after fetched.Failed absences = absences
absences_after fetched.NoMemory absences = absences

-- the count of overruns after a read with this answer
abbrev pub overruns_after : Fetched → ℕ → ℕ
overruns_after (fetched.Bytes _) overruns = overruns
overruns_after fetched.Absent overruns = overruns
overruns_after fetched.TooLong overruns = raised overruns
overruns_after fetched.Failed overruns = overruns
overruns_after fetched.NoMemory overruns = overruns

-- the files after a write with this answer; a write that failed left all files as they were
abbrev pub files_after : Stored → Files → List ℕ → List ℕ → Files
files_after stored.Kept files name bytes = with_file files name bytes
files_after stored.Failed files name bytes = files
files_after stored.NoMemory files name bytes = files

-- how the values of shelves are told apart
abbrev pub files_code : Coded Files
files_code = finite.code (coded_list coded_ℕ) (coded_list coded_ℕ)

abbrev pub log_code : Coded CallLog
log_code =
    code_by (List ℕ × (ℕ × ℕ)) (coded× (coded_list coded_ℕ) (coded× coded_ℕ coded_ℕ)) (λ l. (l.failing, (l.calls, l.faults)))
    (λ p. record { failing = p.0; calls = p.1.0; faults = p.1.1 }) (λ _. refl)

abbrev pub sure_files_code : Coded SureFiles
sure_files_code =
    code_by (Files × (ℕ × (ℕ × ℕ))) (coded× files_code (coded× coded_ℕ (coded× coded_ℕ coded_ℕ)))
    (λ s. (s.files, (s.absences, (s.overruns, s.answers))))
    (λ p. record { files = p.0; absences = p.1.0; overruns = p.1.1.0; answers = p.1.1.1 }) (λ _. refl)

abbrev pub mem_files_code : Coded MemFiles
mem_files_code =
    code_by (Files × (ℕ × (ℕ × (ℕ × CallLog)))) (coded× files_code (coded× coded_ℕ (coded× coded_ℕ (coded× coded_ℕ log_code))))
    (λ s. (s.files, (s.absences, (s.overruns, (s.answers, s.log)))))
    (λ p. record { files = p.0; absences = p.1.0; overruns = p.1.1.0; answers = p.1.1.1.0; log = p.1.1.1.1 }) (λ _. refl)
