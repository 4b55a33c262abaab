use Rattle.std.proofs.Common.{◌≡◌, drop}
use Rattle.sp_words.specs.Rows.{code_of}
use Rattle.sp_words.specs.InnerEntries.{rows_of}
use Rattle.sp_words.proofs.entries.code_among.Given as goal

abbrev pub invariant-loop-entry : goal.invariant-loop-entry
invariant-loop-entry l = code_of l.word (rows_of l.text (drop l.entry-index l.entries)) ≡ code_of l.word (rows_of l.text l.entries)
