use Rattle.std.proofs.Common.{◌≡◌, length}
use Rattle.sp_tree.specs.InnerTables.{AreLinked}
use Rattle.sp_tree.proofs.indexes.link.Given as goal

abbrev pub invariant-loop-place : goal.invariant-loop-place
invariant-loop-place l = record {
  long : length l.next.items ≡ length l.prints;
  same : length l.heads.items ≡ length l.fn.heads.items;
  linked : AreLinked l.prints (length l.fn.heads.items) l.next.items l.heads.items l.place;
}
