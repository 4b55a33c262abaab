-- What a line of a session says: a command, or why it is none.
use Rattle.std.specs.Prelude.{◌≡◌, ◌≢◌, ℕ, Bool, true, false, nat_lt, if◌then◌else◌, List, [], ◌∷◌, length, Option, Some, None, Result, Ok, Err}
use Rattle.std.specs.Option.{option_map, option_and_then}
use Rattle.sp_base.specs.Fields.{fields}
use Rattle.sp_command.specs.declared.commands.Command.{Command}
use Rattle.sp_command.specs.declared.commands.Command.TheVariants.{Read, Optimize, Populate, NBest, Set, Display, WriteTree, Quit, Blank}
use Rattle.sp_command.specs.declared.refusals.CommandRefusal.{CommandRefusal}
use Rattle.sp_command.specs.declared.refusals.CommandRefusal.TheVariants.{LongLine, UnknownCommand, BadArgument, NoMemory}
use Rattle.sp_command_words.specs.declared.keywords.Verb.{Verb}
use Rattle.sp_command_words.specs.declared.keywords.Verb.TheVariants.{Read as ReadVerb, Optimize as OptimizeVerb, Populate as PopulateVerb, NBest as NBestVerb, Set as SetVerb, Filter as FilterVerb, Display as DisplayVerb, Write as WriteVerb, Quit as QuitVerb}
use Rattle.sp_command_words.specs.declared.keywords.FilterKind.{FilterKind}
use Rattle.sp_command_words.specs.declared.keywords.FilterKind.TheVariants.{Range, Diversity, Delete}
use Rattle.sp_command_words.specs.Keywords.{Word, verb_of, filter_kind_of}
use Rattle.sp_command.specs.Commands.{only, alone, file_of, count_of, setting_of, display_of, tree_file}
use Rattle.sp_command.specs.Filters.{range_of, diversity_of, delete_of}

-- the most bytes of a line
abbrev pub most_bytes : ℕ
most_bytes = 4096

abbrev pub filter_command : FilterKind → List Word → Option Command
filter_command Range words = range_of words
filter_command Diversity words = diversity_of words
filter_command Delete words = delete_of words

abbrev pub filter_of : List Word → Option Command
filter_of [] = None
filter_of (kind ∷ words) = option_and_then (λ k. filter_command k words) (filter_kind_of kind)

-- the command that a first word and the words behind it make: a row for each
abbrev pub command_for : Verb → List Word → Option Command
command_for ReadVerb words = option_map (λ file. Read file) (option_and_then file_of (only words))
command_for OptimizeVerb words = alone words Optimize
command_for PopulateVerb words = alone words Populate
command_for NBestVerb words = option_map (λ count. NBest count) (count_of words)
command_for SetVerb words = option_map (λ setting. Set setting) (setting_of words)
command_for FilterVerb words = filter_of words
command_for DisplayVerb words = option_map (λ what. Display what) (display_of words)
command_for WriteVerb words = option_map (λ file. WriteTree file) (tree_file words)
command_for QuitVerb words = alone words Quit

abbrev pub with_arguments : Option Command → Result Command CommandRefusal
with_arguments None = Err BadArgument
with_arguments (Some command) = Ok command

abbrev pub with_verb : Option Verb → List Word → Result Command CommandRefusal
with_verb None words = Err UnknownCommand
with_verb (Some verb) words = with_arguments (command_for verb words)

abbrev pub with_words : List Word → Result Command CommandRefusal
with_words [] = Ok Blank
with_words (verb ∷ words) = with_verb (verb_of verb) words

-- what a line says
unfoldable pub said_by : List ℕ → Result Command CommandRefusal
said_by line = if nat_lt most_bytes (length line) then Err LongLine else with_words (fields line)

-- the answer is this one, but for want of memory
abbrev pub Answers : Result Command CommandRefusal → Result Command CommandRefusal → Type 0
Answers want (Ok command) = want ≡ Ok command
Answers want (Err why) = why ≢ NoMemory → want ≡ Err why

-- whether a command of this first word holds texts
abbrev pub takes_memory : Verb → Bool
takes_memory ReadVerb = true
takes_memory OptimizeVerb = false
takes_memory PopulateVerb = false
takes_memory NBestVerb = false
takes_memory SetVerb = false
takes_memory FilterVerb = true
takes_memory DisplayVerb = false
takes_memory WriteVerb = true
takes_memory QuitVerb = false

abbrev pub verb_takes_memory : Option Verb → Type 0
verb_takes_memory None = ⊥
verb_takes_memory (Some verb) = takes_memory verb ≡ true

abbrev pub words_take_memory : List Word → Type 0
words_take_memory [] = ⊥
words_take_memory (verb ∷ words) = verb_takes_memory (verb_of verb)

-- only a line that begins with read, filter or write takes memory
abbrev pub TakesMemory : List ℕ → Type 0
TakesMemory line = words_take_memory (fields line)
