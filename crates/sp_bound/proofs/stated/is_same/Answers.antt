use Rattle.sp_bound.proofs.StatingLemmas.{same_told}
use Rattle.sp_bound.proofs.stated.is_same.Goals as goal

pub returns : goal.returns
returns c = same_told c.is_equal.result c.args.left.now c.args.right.now c.is_equal.ensures
