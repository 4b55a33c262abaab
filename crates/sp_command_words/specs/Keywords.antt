-- The words of commands, and what they stand for, whatever the case of their letters.
use Rattle.std.specs.Prelude.{◌≡◌, ℕ, Bool, ◌==◌, if◌then◌else◌, List, [], ◌∷◌, Option, Some, None, is_some, codes}
use Rattle.std.specs.List.{zip}
use Rattle.sp_words.specs.Spellings.{spellings}
use Rattle.sp_words.specs.Rows.{Row, code_of}
use Rattle.sp_words.specs.Words.{rows_in}
use Rattle.sp_words.specs.declared.keywords.Words.{Words}
use Rattle.sp_command_words.specs.declared.keywords.Shown.{Shown}
use Rattle.sp_command_words.specs.declared.keywords.Shown.TheVariants.{Found, Pool as ShownPool, Settings, Model, Filters}
use Rattle.sp_command_words.specs.declared.keywords.Verb.{Verb}
use Rattle.sp_command_words.specs.declared.keywords.Verb.TheVariants.{Read, Optimize, Populate, NBest, Set, Filter, Display, Write, Quit}
use Rattle.sp_command_words.specs.declared.keywords.Group.{Group}
use Rattle.sp_command_words.specs.declared.keywords.Group.TheVariants.{Pool, Limits}
use Rattle.sp_command_words.specs.declared.keywords.PoolKey.{PoolKey}
use Rattle.sp_command_words.specs.declared.keywords.PoolKey.TheVariants.{AbsGap, RelGap, Capacity, Intensity, Replace}
use Rattle.sp_command_words.specs.declared.keywords.LimitKey.{LimitKey}
use Rattle.sp_command_words.specs.declared.keywords.LimitKey.TheVariants.{Populate as PopulateLimit, Nodes}
use Rattle.sp_command_words.specs.declared.keywords.FilterKind.{FilterKind}
use Rattle.sp_command_words.specs.declared.keywords.FilterKind.TheVariants.{Range, Diversity, Delete}
use Rattle.sp_command_words.specs.declared.keywords.Symbol.{Symbol}
use Rattle.sp_command_words.specs.declared.keywords.Symbol.TheVariants.{Plus, Minus, AtMost}

-- a word of a line
abbrev pub Word : Type 0
Word = List ℕ

abbrev pub verb_rows : List Row
verb_rows = zip (spellings (codes "read optimize populate nbest set filter display write quit")) (1 ∷ 2 ∷ 3 ∷ 4 ∷ 5 ∷ 6 ∷ 7 ∷ 8 ∷ 9 ∷ [])

pub record HasVerbs (table : Words 9) : Type 0 where
  pub rows : rows_in table ≡ verb_rows

abbrev pub mip_rows : List Row
mip_rows = zip (spellings (codes "mip")) (1 ∷ [])

pub record HasMip (table : Words 1) : Type 0 where
  pub rows : rows_in table ≡ mip_rows

abbrev pub group_rows : List Row
group_rows = zip (spellings (codes "pool limits")) (1 ∷ 2 ∷ [])

pub record HasGroups (table : Words 2) : Type 0 where
  pub rows : rows_in table ≡ group_rows

abbrev pub pool_key_rows : List Row
pool_key_rows = zip (spellings (codes "absgap relgap capacity intensity replace")) (1 ∷ 2 ∷ 3 ∷ 4 ∷ 5 ∷ [])

pub record HasPoolKeys (table : Words 5) : Type 0 where
  pub rows : rows_in table ≡ pool_key_rows

abbrev pub limit_key_rows : List Row
limit_key_rows = zip (spellings (codes "populate nodes")) (1 ∷ 2 ∷ [])

pub record HasLimitKeys (table : Words 2) : Type 0 where
  pub rows : rows_in table ≡ limit_key_rows

abbrev pub filter_kind_rows : List Row
filter_kind_rows = zip (spellings (codes "range diversity delete")) (1 ∷ 2 ∷ 3 ∷ [])

pub record HasFilterKinds (table : Words 3) : Type 0 where
  pub rows : rows_in table ≡ filter_kind_rows

abbrev pub shown_rows : List Row
shown_rows = zip (spellings (codes "found pool settings model filters")) (1 ∷ 2 ∷ 3 ∷ 4 ∷ 5 ∷ [])

pub record HasShown (table : Words 5) : Type 0 where
  pub rows : rows_in table ≡ shown_rows

abbrev pub tree_rows : List Row
tree_rows = zip (spellings (codes "tree")) (1 ∷ [])

pub record HasTree (table : Words 1) : Type 0 where
  pub rows : rows_in table ≡ tree_rows

abbrev pub symbol_rows : List Row
symbol_rows = zip (spellings (codes "+ - <=")) (1 ∷ 2 ∷ 3 ∷ [])

pub record HasSymbols (table : Words 3) : Type 0 where
  pub rows : rows_in table ≡ symbol_rows

abbrev pub verb_for : ℕ → Option Verb
verb_for code =
    if code == 1 then Some Read else (
    if code == 2 then Some Optimize else (
    if code == 3 then Some Populate else (
    if code == 4 then Some NBest else (
    if code == 5 then Some Set else (
    if code == 6 then Some Filter else (
    if code == 7 then Some Display else (
    if code == 8 then Some Write else (
    if code == 9 then Some Quit else None))))))))

abbrev pub verb_from : Option ℕ → Option Verb
verb_from None = None
verb_from (Some code) = verb_for code

-- the command that a first word names
unfoldable pub verb_of : Word → Option Verb
verb_of word = verb_from (code_of word verb_rows)

abbrev pub group_for : ℕ → Option Group
group_for code =
    if code == 1 then Some Pool else (
    if code == 2 then Some Limits else None)

abbrev pub group_from : Option ℕ → Option Group
group_from None = None
group_from (Some code) = group_for code

-- the group of settings that a word names
unfoldable pub group_of : Word → Option Group
group_of word = group_from (code_of word group_rows)

abbrev pub pool_key_for : ℕ → Option PoolKey
pool_key_for code =
    if code == 1 then Some AbsGap else (
    if code == 2 then Some RelGap else (
    if code == 3 then Some Capacity else (
    if code == 4 then Some Intensity else (
    if code == 5 then Some Replace else None))))

abbrev pub pool_key_from : Option ℕ → Option PoolKey
pool_key_from None = None
pool_key_from (Some code) = pool_key_for code

-- the setting of the pool that a word names
unfoldable pub pool_key_of : Word → Option PoolKey
pool_key_of word = pool_key_from (code_of word pool_key_rows)

abbrev pub limit_key_for : ℕ → Option LimitKey
limit_key_for code =
    if code == 1 then Some PopulateLimit else (
    if code == 2 then Some Nodes else None)

abbrev pub limit_key_from : Option ℕ → Option LimitKey
limit_key_from None = None
limit_key_from (Some code) = limit_key_for code

-- the limit that a word names
unfoldable pub limit_key_of : Word → Option LimitKey
limit_key_of word = limit_key_from (code_of word limit_key_rows)

abbrev pub filter_kind_for : ℕ → Option FilterKind
filter_kind_for code =
    if code == 1 then Some Range else (
    if code == 2 then Some Diversity else (
    if code == 3 then Some Delete else None))

abbrev pub filter_kind_from : Option ℕ → Option FilterKind
filter_kind_from None = None
filter_kind_from (Some code) = filter_kind_for code

-- the command on filters that a word names
unfoldable pub filter_kind_of : Word → Option FilterKind
filter_kind_of word = filter_kind_from (code_of word filter_kind_rows)

abbrev pub shown_for : ℕ → Option Shown
shown_for code =
    if code == 1 then Some Found else (
    if code == 2 then Some ShownPool else (
    if code == 3 then Some Settings else (
    if code == 4 then Some Model else (
    if code == 5 then Some Filters else None))))

abbrev pub shown_from : Option ℕ → Option Shown
shown_from None = None
shown_from (Some code) = shown_for code

-- what a word asks to show
unfoldable pub shown_of : Word → Option Shown
shown_of word = shown_from (code_of word shown_rows)

abbrev pub symbol_for : ℕ → Option Symbol
symbol_for code =
    if code == 1 then Some Plus else (
    if code == 2 then Some Minus else (
    if code == 3 then Some AtMost else None))

abbrev pub symbol_from : Option ℕ → Option Symbol
symbol_from None = None
symbol_from (Some code) = symbol_for code

-- the sign or comparison that a word is
unfoldable pub symbol_of : Word → Option Symbol
symbol_of word = symbol_from (code_of word symbol_rows)

unfoldable pub is_mip : Word → Bool
is_mip word = is_some (code_of word mip_rows)

unfoldable pub is_tree : Word → Bool
is_tree word = is_some (code_of word tree_rows)
