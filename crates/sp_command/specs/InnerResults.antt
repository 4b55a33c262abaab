-- What private functions answer. No public clause cites this module.
use Rattle.std.specs.Prelude.{◌≡◌, ◌++◌, List, Option, Some, None, Result, Ok, Err}
use Rattle.sp_command.specs.declared.commands.Command.{Command}
use Rattle.sp_command.specs.declared.refusals.CommandRefusal.{CommandRefusal}
use Rattle.sp_command.specs.declared.refusals.CommandRefusal.TheVariants.{LongLine, UnknownCommand, BadArgument, NoMemory}
use Rattle.sp_command.specs.Filters.{SumTerm, Sum, DistanceTerm}

-- a refusal of arguments is one of these two
abbrev pub IsBad : {A : Type 0} → CommandRefusal → Option A → Type 0
IsBad LongLine want = ⊥
IsBad UnknownCommand want = ⊥
IsBad BadArgument want = want ≡ None
IsBad NoMemory want = Unit {0}

-- the command that is wanted, or a refusal with its cause
abbrev pub Gives : Result Command CommandRefusal → Option Command → Type 0
Gives (Ok command) want = want ≡ Some command
Gives (Err why) want = IsBad why want

-- terms before those of a sum
abbrev pub after_terms : List SumTerm → Option Sum → Option Sum
after_terms terms None = None
after_terms terms (Some sum) = Some (terms ++ sum.0, sum.1)

abbrev pub after_distances : List DistanceTerm → Option (List DistanceTerm) → Option (List DistanceTerm)
after_distances terms None = None
after_distances terms (Some later) = Some (terms ++ later)
