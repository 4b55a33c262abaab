-- What words are given for, and the values of options.
use Rattle.std.specs.Prelude.{◌≡◌, ℕ, Bool, true, false, not, ◌==◌, ◌&&◌, if◌then◌else◌, codes}
use Rattle.std.specs.Prelude.{List, [], ◌∷◌, ◌++◌, map, find, Option, Some, None, option_map}
use Rattle.std.specs.List.{list_any}
use Rattle.std.specs.Str.{bytes_eq}
use Rattle.sp_model.specs.declared.gaps.Gap.{Gap}
use Rattle.sp_args.specs.Values.{gap_of, most_nodes, nodes_of}

abbrev pub Word : Type 0
Word = List ℕ

-- what a word is given for: the value of an option, or FILE
pub data Key : Type 0 where
  absgap : Key
  relgap : Key
  nodes : Key
  file : Key

abbrev pub same_key : Key → Key → Bool
same_key absgap absgap = true
same_key relgap relgap = true
same_key nodes nodes = true
same_key file file = true
same_key _ _ = false

-- the option of this name
abbrev pub key_of : Word → Option Key
key_of name = if bytes_eq (codes "absgap") name then Some absgap
    else (if bytes_eq (codes "relgap") name then Some relgap
    else (if bytes_eq (codes "nodes") name then Some nodes else None))

-- a dash is 45
abbrev pub has_dash : Word → Bool
has_dash [] = false
has_dash (b ∷ bs) = b == 45

abbrev pub dashes : Word
dashes = 45 ∷ 45 ∷ []

-- a word that doesn't begin with a dash, and the dash alone
abbrev pub may_be_file : Word → Bool
may_be_file [] = true
may_be_file (b ∷ []) = true
may_be_file (b ∷ c ∷ rest) = not (b == 45)

-- texts, each with what it is given for, in their order
abbrev pub Uses : Type 0
Uses = List (Key × Word)

-- what words give, from the left: `--NAME=V`, or `--NAME` and V, where V then doesn't begin with a dash; FILE; and behind
-- `--` FILE alone. The `=` is 61.
pub data Gives : List Word → Uses → Type 0 where
  nothing : Gives [] []
  joined : (name : Word) {value : Word} {key : Key} {words : List Word} {uses : Uses}
      → key_of name ≡ Some key → Gives words uses → Gives ((dashes ++ name ++ 61 ∷ value) ∷ words) ((key, value) ∷ uses)
  apart : (name : Word) {value : Word} {key : Key} {words : List Word} {uses : Uses}
      → key_of name ≡ Some key → has_dash value ≡ false → Gives words uses → Gives ((dashes ++ name) ∷ value ∷ words) ((key, value) ∷ uses)
  named : {word : Word} {words : List Word} {uses : Uses}
      → may_be_file word ≡ true → Gives words uses → Gives (word ∷ words) ((file, word) ∷ uses)
  all_named : {words : List Word} → Gives (dashes ∷ words) (map (λ w. (file, w)) words)

abbrev pub has_use : Key → Uses → Bool
has_use k = list_any (λ u. same_key u.0 k)

-- nothing is given twice
abbrev pub is_once : Uses → Bool
is_once [] = true
is_once (u ∷ us) = not (has_use u.0 us) && is_once us

-- the text that is given for this, if there is one
abbrev pub text_at : Key → Uses → Option Word
text_at k uses = option_map (λ u. u.1) (find (λ u. same_key u.0 k) uses)

-- ---- values

-- the gap that a text writes, or the other one where none is given
abbrev pub gap_or : Gap → Option Word → Option Gap
gap_or other None = Some other
gap_or other (Some text) = gap_of text

-- the limit that a text writes, or the most where none is given
abbrev pub nodes_or : Option Word → Option ℕ
nodes_or None = Some most_nodes
nodes_or (Some text) = nodes_of text
