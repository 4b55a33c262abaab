use Rattle.sp_sums.specs.Rows.{row_at}
use Rattle.sp_bound.specs.KeptBounds.{owner_at}
use Rattle.sp_bound.proofs.RaiseLemmas.{sides_small}
use Rattle.sp_bound.proofs.raising.raise_row.Goals as goal

pub side_under-side-requires-clause-sides : goal.side_under-side-requires-clause-sides
side_under-side-requires-clause-sides c =
    sides_small c.args.model.now c.args.lists.now (owner_at c.args.owners.now c.args.at) (row_at c.args.sums.now.rows c.args.at) (c.requires.owned.each c.args.at c.requires.known)
