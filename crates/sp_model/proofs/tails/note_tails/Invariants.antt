use Rattle.std.proofs.Common.{◌-◌, length, drop}
use Rattle.sp_model.specs.InnerRounds.{AreTailsOf}
use Rattle.sp_model.proofs.RowLemmas.{AreTailsSoFar}
use Rattle.sp_model.proofs.tails.note_tails.Given as goal

abbrev pub invariant-loop-place : goal.invariant-loop-place
invariant-loop-place l = record {
  next : AreTailsOf l.bounds (drop (length l.terms - l.place) l.terms) l.next;
  noted : AreTailsSoFar l.bounds l.terms l.place l.tails.items;
}
