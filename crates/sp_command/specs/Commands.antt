-- What a line says, and what is wrong with it.
use Rattle.std.specs.Prelude.{ℕ, ◌-◌, Bool, ◌&&◌, ◌||◌, ◌==◌, nat_le, if◌then◌else◌, List, [], ◌∷◌, length, drop, Option, Some, None, codes}
use Rattle.std.specs.Option.{option_map, option_and_then}
use Rattle.std.specs.Str.{str_eq_ignore_ascii_case}
use Rattle.sp_pool.specs.declared.members.Rule.{Rule}
use Rattle.sp_pool.specs.declared.members.Rule.TheVariants.{Fifo, Worst}
use Rattle.sp_command.specs.declared.commands.Command.{Command}
use Rattle.sp_command.specs.declared.commands.Setting.{Setting}
use Rattle.sp_command.specs.declared.commands.Setting.TheVariants.{AbsGap, RelGap, Capacity, Intensity, Replace, Populate as PopulateLimit, Nodes}
use Rattle.sp_command_words.specs.declared.keywords.Shown.{Shown}
use Rattle.sp_command_words.specs.declared.keywords.Group.{Group}
use Rattle.sp_command_words.specs.declared.keywords.Group.TheVariants.{Pool, Limits}
use Rattle.sp_command_words.specs.declared.keywords.PoolKey.{PoolKey}
use Rattle.sp_command_words.specs.declared.keywords.PoolKey.TheVariants.{AbsGap as AbsGapKey, RelGap as RelGapKey, Capacity as CapacityKey, Intensity as IntensityKey, Replace as ReplaceKey}
use Rattle.sp_command_words.specs.declared.keywords.LimitKey.{LimitKey}
use Rattle.sp_command_words.specs.declared.keywords.LimitKey.TheVariants.{Populate as PopulateKey, Nodes as NodesKey}
use Rattle.sp_command_words.specs.Keywords.{Word, is_mip, group_of, pool_key_of, limit_key_of, shown_of, is_tree}
use Rattle.sp_command.specs.Values.{whole, gap_of}

-- the greatest value of most limits
abbrev pub most : ℕ
most = 2100000000

-- the only word, where there is one
abbrev pub only : List Word → Option Word
only [] = None
only (word ∷ []) = Some word
only (word ∷ other ∷ words) = None

-- the value where there is no word
abbrev pub alone : List Word → Command → Option Command
alone [] command = Some command
alone (word ∷ words) command = None

-- read FILE: the file's name ends in .lp or .mps, whatever the case
abbrev pub ends_with : List ℕ → Word → Bool
ends_with ending word = nat_le (length ending) (length word) && str_eq_ignore_ascii_case (drop (length word - length ending) word) ending

abbrev pub is_model_file : Word → Bool
is_model_file word = ends_with (codes ".lp") word || ends_with (codes ".mps") word

abbrev pub file_of : Word → Option Word
file_of word = if is_model_file word then Some word else None

-- nbest K
abbrev pub count_of : List Word → Option ℕ
count_of words = option_and_then (whole 1 most) (only words)

-- set mip pool KEY V
abbrev pub rule_for : ℕ → Rule
rule_for n = if n == 0 then Fifo else Worst

abbrev pub pool_value : PoolKey → Word → Option Setting
pool_value AbsGapKey word = option_map AbsGap (gap_of word)
pool_value RelGapKey word = option_map RelGap (gap_of word)
pool_value CapacityKey word = option_map Capacity (whole 0 most word)
pool_value IntensityKey word = option_map Intensity (whole 0 4 word)
pool_value ReplaceKey word = option_map (λ n. Replace (rule_for n)) (whole 0 1 word)

-- set mip limits KEY V
abbrev pub limit_value : LimitKey → Word → Option Setting
limit_value PopulateKey word = option_map PopulateLimit (whole 1 most word)
limit_value NodesKey word = option_map Nodes (whole 1 200000 word)

abbrev pub pool_setting : List Word → Option Setting
pool_setting [] = None
pool_setting (key ∷ words) = option_and_then (λ k. option_and_then (pool_value k) (only words)) (pool_key_of key)

abbrev pub limit_setting : List Word → Option Setting
limit_setting [] = None
limit_setting (key ∷ words) = option_and_then (λ k. option_and_then (limit_value k) (only words)) (limit_key_of key)

abbrev pub group_setting : Group → List Word → Option Setting
group_setting Pool words = pool_setting words
group_setting Limits words = limit_setting words

abbrev pub mip_setting : List Word → Option Setting
mip_setting [] = None
mip_setting (group ∷ words) = option_and_then (λ g. group_setting g words) (group_of group)

abbrev pub setting_of : List Word → Option Setting
setting_of [] = None
setting_of (mip ∷ words) = if is_mip mip then mip_setting words else None

-- display WHAT
abbrev pub display_of : List Word → Option Shown
display_of words = option_and_then shown_of (only words)

-- write tree FILE
abbrev pub tree_file : List Word → Option Word
tree_file [] = None
tree_file (tree ∷ words) = if is_tree tree then only words else None
