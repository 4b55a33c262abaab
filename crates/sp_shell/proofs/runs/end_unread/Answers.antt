use Rattle.std.proofs.Common.{◌∙◌}
use Rattle.sp_shell.proofs.RunLemmas.{no_reading_of, usage_ended}
use Rattle.sp_shell.proofs.runs.end_unread.Goals as goal

pub returns-in-Usage-clause-ends : goal.returns-in-Usage-clause-ends
returns-in-Usage-clause-ends g c =
    λ files words none. usage_ended files words (no_reading_of c.args.why c.in-Usage.is none) (c.end_with_line.ensures.entries ∙ c.new-in-Usage.ensures.items) c.end_with_line.ensures.answered
