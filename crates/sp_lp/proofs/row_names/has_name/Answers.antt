use Rattle.std.proofs.Common.{◌∙◌}
use Rattle.sp_lp.proofs.RowNameLemmas.{has_name}
use Rattle.sp_lp.proofs.row_names.has_name.Goals as goal

pub returns : goal.returns
returns c = c.contains.ensures ∙ has_name c.args.names.now.keys c.args.name.now
