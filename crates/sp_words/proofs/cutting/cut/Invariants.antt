use Rattle.sp_words.proofs.CutLemmas.{IsCutUpTo}
use Rattle.sp_words.proofs.cutting.cut.Given as goal

abbrev pub invariant-loop-i : goal.invariant-loop-i
invariant-loop-i g l = IsCutUpTo g.row.N l.text l.codes l.entries l.i l.start
