use Rattle.std.proofs.Common.{◌≡◌, drop}
use Rattle.sp_pool.specs.InnerLines.{AreApart}
use Rattle.sp_pool.specs.InnerRanks.{swept}
use Rattle.sp_pool.proofs.rankings.keep_all_listed.Given as goal

-- what is left to look at leaves the same members
abbrev pub invariant-loop-key : goal.invariant-loop-key
invariant-loop-key l =
    (swept l.serials (drop l.key-index l.keys) l.line.items ≡ swept l.serials l.keys l.initial.line.items)
    × AreApart l.line.items
    × (l.line.capacity ≡ l.initial.line.capacity)
