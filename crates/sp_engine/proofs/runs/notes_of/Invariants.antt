use Rattle.std.proofs.Common.{◌≡◌, map, take}
use Rattle.sp_list.specs.Lists.{points_of}
use Rattle.sp_engine.specs.declared.journals.Entry.TheVariants as entry
use Rattle.sp_engine.proofs.runs.notes_of.Given as goal

-- the notes of the points before this one
abbrev pub invariant-loop-one : goal.invariant-loop-one
invariant-loop-one l = l.notes.items ≡ map entry.Found (points_of (take l.one-index l.found))
