-- What the parts of a command promise.
use Rattle.std.specs.Prelude.{◌≡◌, ℕ, ◌^◌, ◌≤◌, true, length, All, unsigned_abs}
use Rattle.sp_model.specs.Cuts.{IsGap}
use Rattle.sp_command.specs.declared.commands.Command.{Command}
use Rattle.sp_command.specs.declared.commands.Command.TheVariants.{Read, Optimize, Populate, NBest, Set, FilterRange, FilterDiversity, FilterDelete, Display, WriteTree, Quit, Blank}
use Rattle.sp_command.specs.declared.commands.Setting.{Setting}
use Rattle.sp_command.specs.declared.commands.Setting.TheVariants.{AbsGap, RelGap, Capacity, Intensity, Replace, Populate as PopulateLimit, Nodes}
use Rattle.sp_command_words.specs.Keywords.{Word}
use Rattle.sp_command.specs.Commands.{most, is_model_file}
use Rattle.sp_command.specs.Filters.{DistanceTerm}

-- a number from the first to the second
pub record IsFromTo (least greatest n : ℕ) : Type 0 where
  pub from : least ≤ n
  pub to : n ≤ greatest

abbrev pub IsLawfulSetting : Setting → Type 0
IsLawfulSetting (AbsGap gap) = IsGap gap
IsLawfulSetting (RelGap gap) = IsGap gap
IsLawfulSetting (Capacity n) = n ≤ most
IsLawfulSetting (Intensity n) = n ≤ 4
IsLawfulSetting (Replace rule) = Unit {0}
IsLawfulSetting (PopulateLimit n) = IsFromTo 1 most n
IsLawfulSetting (Nodes n) = IsFromTo 1 200000 n

-- the reference value has a magnitude of at most 10^15
abbrev pub IsDistance : DistanceTerm → Type 0
IsDistance term = unsigned_abs term.2 ≤ 10 ^ 15

-- a name of at most 255 bytes
abbrev pub IsShort : Word → Type 0
IsShort name = length name ≤ 255

-- limits are in their ranges, gaps are lawful, a model's file has one of the two endings, and filters have short names;
-- decimals are exact by their type
abbrev pub IsLawfulCommand : Command → Type 0
IsLawfulCommand (Read file) = is_model_file file ≡ true
IsLawfulCommand Optimize = Unit {0}
IsLawfulCommand Populate = Unit {0}
IsLawfulCommand (NBest count) = IsFromTo 1 most count
IsLawfulCommand (Set setting) = IsLawfulSetting setting
IsLawfulCommand (FilterRange name lo terms hi) = IsShort name
IsLawfulCommand (FilterDiversity name lo hi terms) = IsShort name × All IsDistance terms
IsLawfulCommand (FilterDelete name) = IsShort name
IsLawfulCommand (Display what) = Unit {0}
IsLawfulCommand (WriteTree file) = Unit {0}
IsLawfulCommand Quit = Unit {0}
IsLawfulCommand Blank = Unit {0}
