use Rattle.std.proofs.Common.{rules}
use Rattle.sp_shell.proofs.runs.list_buffered.Goals as goal

pub returns-in-Ok-clause-ends : goal.returns-in-Ok-clause-ends
returns-in-Ok-clause-ends g c =
    λ files name read. (let e = c.list_model-ending.ensures.ends files name read in record { outcome = search rules; later = search rules; fault = search rules })
