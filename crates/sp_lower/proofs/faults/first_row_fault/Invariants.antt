use Rattle.std.proofs.Common.{◌≡◌, All, length, drop}
use Rattle.sp_draft.specs.Drafts.{AreKnown}
use Rattle.sp_lower.specs.Faults.{first_fault, row_fault}
use Rattle.sp_lower.proofs.faults.first_row_fault.Given as goal

abbrev pub invariant-loop-at : goal.invariant-loop-at
invariant-loop-at l = record { same : first_fault (row_fault l.root) l.at (drop l.at l.rows) ≡ first_fault (row_fault l.root) 0 l.rows; known : All (λ row. AreKnown (length l.root) row.terms) (drop l.at l.rows) }
