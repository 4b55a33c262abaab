use Rattle.std.proofs.Common.{◌∙◌, sym, ap}
use Rattle.sp_meaning.specs.Formats.{format_of}
use Rattle.sp_shell.proofs.RunLemmas.{file_ended, other_ended}
use Rattle.sp_shell.proofs.runs.run.Goals as goal

pub returns-in-Err-clause-outcome : goal.returns-in-Err-clause-outcome
returns-in-Err-clause-outcome g c = (c.end_unread.ensures.ends (g.F.Shelf.files c.args.shelf.now) c.args.words.now c.in-Err.ensures.reading).outcome

pub returns-in-Err-clause-sink_fault : goal.returns-in-Err-clause-sink_fault
returns-in-Err-clause-sink_fault g c = (c.end_unread.ensures.ends (g.F.Shelf.files c.args.shelf.now) c.args.words.now c.in-Err.ensures.reading).fault

pub returns-in-Err-clause-sink_later : goal.returns-in-Err-clause-sink_later
returns-in-Err-clause-sink_later g c = (c.end_unread.ensures.ends (g.F.Shelf.files c.args.shelf.now) c.args.words.now c.in-Err.ensures.reading).later

pub returns-in-None-clause-outcome : goal.returns-in-None-clause-outcome
returns-in-None-clause-outcome g c =
    (other_ended c.in-Ok.ensures.reading (ap format_of (sym c.as_slice.ensures) ∙ sym c.in-None.ensures) (c.end_with_line.ensures.entries ∙ c.new.ensures.items) c.end_with_line.ensures.answered).outcome

pub returns-clause-outcome : goal.returns-clause-outcome
returns-clause-outcome g c =
    (file_ended c.in-Ok.ensures.reading (ap format_of (sym c.as_slice.ensures) ∙ sym c.in-Some.ensures) c.read_and_list.ensures.ends).outcome
