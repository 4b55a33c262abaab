use Rattle.std.proofs.Common.{◌≡◌, drop}
use Rattle.sp_words.specs.Spellings.{are_keywords}
use Rattle.sp_words.specs.Rows.{words_of}
use Rattle.sp_words.specs.InnerEntries.{rows_of}
use Rattle.sp_words.proofs.entries.have_keywords.Given as goal

abbrev pub invariant-loop-i : goal.invariant-loop-i
invariant-loop-i l = are_keywords (words_of (rows_of l.text (drop l.i l.entries))) ≡ are_keywords (words_of (rows_of l.text l.entries))
