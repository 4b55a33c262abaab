use Rattle.sp_lp.specs.Standins.{spare_name}
use Rattle.sp_lp.proofs.other_tokens.read_other.Goals as goal

pub returns-in-Name : goal.returns-in-Name
unfolding spare_name
returns-in-Name c = rw c.in-Name.is c.read_next.ensures
