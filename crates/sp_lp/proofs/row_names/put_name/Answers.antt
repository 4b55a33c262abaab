use Rattle.std.proofs.Common.{◌∙◌}
use Rattle.sp_lp.proofs.RowNameLemmas.{new_name, names_put}
use Rattle.sp_lp.proofs.row_names.put_name.Goals as goal

pub returns-in-Ok-clause-names : goal.returns-in-Ok-clause-names
returns-in-Ok-clause-names c = rw c.in-Ok.ensures.keys (names_put c.args.names.now.keys c.args.name)

pub returns-in-Ok-clause-new : goal.returns-in-Ok-clause-new
returns-in-Ok-clause-new c = c.in-Ok.ensures.added ∙ new_name c.args.names.now.keys c.args.name.now
