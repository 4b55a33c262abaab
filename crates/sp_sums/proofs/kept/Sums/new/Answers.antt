use Rattle.sp_sums.proofs.MakeLemmas.{narrow_inside}
use Rattle.sp_sums.proofs.kept.Sums.new.Goals as goal

pub tally_over-requires-clause-narrow : goal.tally_over-requires-clause-narrow
tally_over-requires-clause-narrow c =
    rw c.as_slice-2.ensures (narrow_inside c.args.root c.args.bounds c.args.rows c.requires.fit c.requires.inside)
