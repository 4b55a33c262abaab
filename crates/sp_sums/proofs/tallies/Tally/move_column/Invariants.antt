use Rattle.std.proofs.Common.{◌≡◌, drop}
use Rattle.sp_sums.specs.Inner.{marks}
use Rattle.sp_sums.proofs.MoveLemmas.{IsMoving}
use Rattle.sp_sums.proofs.tallies.Tally.move_column.Given as goal

abbrev pub invariant-loop-entry : goal.invariant-loop-entry
invariant-loop-entry l =
    record {
      moving : IsMoving l.fn.root l.bounds l.rows l.fn.var l.to (drop l.entry-index l.column) l.self.spans;
      marked : l.self.broken ≡ marks l.rows l.self.spans;
    }
