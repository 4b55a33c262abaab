-- Commands in order.
use Rattle.std.specs.Prelude.{ℕ, suc, List, [], ◌∷◌}
use Rattle.sp_engine.specs.declared.commands.Command.{Command}
use Rattle.sp_engine.specs.declared.commands.Command.TheVariants as command
use Rattle.sp_engine.specs.declared.journals.Entry.{Entry}
use Rattle.sp_engine.specs.declared.journals.Entry.TheVariants as entry
use Rattle.sp_engine.specs.declared.replies.Reply.{Reply}
use Rattle.sp_engine.specs.Views.{View}
use Rattle.sp_engine.specs.Reading.{SaysRead}
use Rattle.sp_engine.specs.Listing.{SaysList}

-- one command over these data: the notes that it makes, its reply, and the data after it
abbrev pub Says : View → Command → List Entry → Reply → View → Type 0
Says view (command.Read name) notes r after = SaysRead view name notes r after
Says view command.List notes r after = SaysList view.model view notes r after

-- the place behind the first note that ends a run
abbrev pub end_of_run : List Entry → ℕ
end_of_run [] = 0
end_of_run (entry.Ended ended nodes ∷ rest) = 1
end_of_run (entry.Found x ∷ rest) = suc (end_of_run rest)
end_of_run (entry.Fetched answer ∷ rest) = suc (end_of_run rest)
end_of_run (entry.Stored answer ∷ rest) = suc (end_of_run rest)

-- how many notes of a journal are the first command's
abbrev pub share_of : Command → List Entry → ℕ
share_of (command.Read name) notes = 1
share_of command.List notes = end_of_run notes
