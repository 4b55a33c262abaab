use Rattle.std.proofs.Common.{◌≡◌, ◌++◌, ◌-◌}
use Rattle.slab.specs.Slab.{slab_len}
use Rattle.sp_pool.specs.InnerLines.{members_in, walk}
use Rattle.sp_pool.proofs.lines.Line.members.Given as goal

-- the found members and those that the walk still gives
abbrev pub invariant-loop : goal.invariant-loop
invariant-loop l = l.found.items ++ members_in (walk l.self-inside.nodes (l.end - l.counter) l.next) ≡ members_in (walk l.self-inside.nodes (slab_len l.self-inside.nodes) l.self-inside.first)
