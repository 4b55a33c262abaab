use Rattle.sp_sums.proofs.KeptLemmas.{tally_none, tally_first}
use Rattle.sp_sums.proofs.kept.Sums.first_broken.Goals as goal

pub returns-in-None : goal.returns-in-None
returns-in-None c =
    rw (← c.self.view_is) (tally_none c.self.inside.bounds c.self.inside.rows.items c.self.inside.tally.spans c.self.inside.tally.broken c.self.invariant.tally c.in-None.ensures)

pub returns-in-Some : goal.returns-in-Some
returns-in-Some c =
    rw (c.new.ensures, ← c.self.view_is) (tally_first c.self.inside.bounds c.self.inside.rows.items c.self.inside.tally.spans c.self.inside.tally.broken c.in-Some.at c.self.invariant.tally c.in-Some.ensures)
