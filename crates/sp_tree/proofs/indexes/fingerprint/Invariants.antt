use Rattle.std.proofs.Common.{◌≡◌, ◌<◌, ◌^◌, drop}
use Rattle.sp_tree.specs.InnerTables.{print_from, print_of}
use Rattle.sp_tree.proofs.indexes.fingerprint.Given as goal

abbrev pub invariant-loop-entry : goal.invariant-loop-entry
invariant-loop-entry l = record { small : l.print < 2 ^ 32; rest : print_from l.print (drop l.entry-index l.entry-items) ≡ print_of l.fn.list }
