use Rattle.std.proofs.Common.{Some, sym, ap, ◌∙◌}
use Rattle.sp_base.proofs.EntryLemmas.{file_at, file_nowhere}
use Rattle.sp_base.proofs.memory_shelves.find_file.Goals as goal

pub returns-in-Some : goal.returns-in-Some
returns-in-Some c =
    ap Some c.as_slice.ensures.value
    ∙ sym (file_at c.args.entries.now c.args.name.now c.in-Some.place c.index-entries-place.result (sym c.in-Some.ensures))

pub returns-in-None : goal.returns-in-None
returns-in-None c = sym (file_nowhere c.args.entries.now c.args.name.now (sym c.in-None.ensures))
