-- How the kind of a fault is decided: by what the reader goes on with.
use Rattle.std.specs.Prelude.{ℕ, ◌+◌, ◌-◌, Bool, true, false, not, ◌||◌, ◌&&◌, if◌then◌else◌, List, [], ◌∷◌, ◌++◌, length, take, map, slice_index_or, Option, Some, None, is_some}
use Rattle.sp_lp_tokens.specs.declared.token_types.Token.{Token}
use Rattle.sp_lp_tokens.specs.declared.token_types.TokenKind.TheVariants as kinds
use Rattle.sp_lp_tokens.specs.SeenTokens.{SeenToken}
use Rattle.sp_lp_words.specs.declared.sections.Section.{Section}
use Rattle.sp_lp_words.specs.declared.sections.Section.TheVariants as sections
use Rattle.sp_lp_words.specs.declared.sections.Pair.{Pair}
use Rattle.sp_lp_words.specs.declared.sections.Part.TheVariants as parts
use Rattle.sp_lp_words.specs.declared.classes.Class.{Class}
use Rattle.sp_lp_words.specs.declared.classes.Class.TheVariants as classes
use Rattle.sp_lp_words.specs.Sections.{pair_section}
use Rattle.sp_lp_grammar.specs.Lexemes.{Mark, colon_first, is_second}
use Rattle.sp_lp_grammar.specs.InnerCursor.{origin, walk}
use Rattle.sp_lp.specs.declared.other_tokens.Other.{Other}
use Rattle.sp_lp.specs.declared.other_tokens.Other.TheVariants.{Name, SetKind, Number, Plus, Colon}
use Rattle.sp_lp.specs.declared.fault_kinds.FaultKind.{FaultKind}
use Rattle.sp_lp.specs.declared.fault_kinds.FaultKind.TheVariants.{Syntax, Wide, WideBefore, Duplicate, Unsupported}
use Rattle.sp_lp.specs.Standins.{line_of, a_name, a_set_kind, a_number, a_plus, a_colon}
use Rattle.sp_lp.specs.Refusals.{marks_from, name_stands, set_kind_stands, huge_stands, colon_stands, is_unsupported}

-- what stands for a token of a file without any
abbrev pub no_list_token : Token
no_list_token = record { kind = kinds.Name; start = 0; end = 0; line = 1 }

abbrev pub fault_line : List Token → ℕ → ℕ
fault_line list place = (slice_index_or list place (slice_index_or list (length list - 1) no_list_token)).line

-- the section whose word counts behind a first token of this class
abbrev pub pair_counts : Pair → List Mark → Option Section
pair_counts pair [] = None
pair_counts pair (m ∷ ms) = if not m.first && is_second pair m.class && not (colon_first ms) then Some (pair_section pair) else None

abbrev pub word_counts : Section → List Mark → Option Section
word_counts section ms = if colon_first ms then None else Some section

abbrev pub class_counts : Class → List Mark → Option Section
class_counts (classes.Name (Some (parts.Whole section))) ms = word_counts section ms
class_counts (classes.Name (Some parts.Semi)) ms = word_counts sections.Semi ms
class_counts (classes.Name (Some (parts.Opens pair))) ms = pair_counts pair ms
class_counts class ms = None

abbrev pub section_stands : List Mark → Option Section
section_stands [] = None
section_stands (m ∷ ms) = if m.first then class_counts m.class ms else None

-- it is that of `user cuts`
abbrev pub is_cuts_section : Option Section → Bool
is_cuts_section (Some sections.Cuts) = true
is_cuts_section section = false

-- a token in the place of another one
abbrev pub other_token : ℕ → Other → SeenToken
other_token line Name = a_name line
other_token line SetKind = a_set_kind line
other_token line Number = a_number line
other_token line Plus = a_plus line
other_token line Colon = a_colon line

abbrev pub other_tokens : ℕ → List Other → List SeenToken
other_tokens line others = map (other_token line) others

-- the reader comes to the end of the tokens
unfoldable pub goes : List SeenToken → Bool
goes ts = is_some (walk true 0 origin ts)

-- it does with these in place of those from there on
abbrev pub goes_with : List SeenToken → ℕ → List Other → Bool
goes_with ts place others = goes (take place ts ++ other_tokens (line_of ts place) others)

abbrev pub is_number_part : List SeenToken → ℕ → Bool
is_number_part ts place =
    goes_with ts place (Number ∷ Plus ∷ []) || (goes_with ts place (Number ∷ Name ∷ Colon ∷ []) || (name_stands (marks_from ts (place + 1)) && goes_with ts place (Number ∷ Name ∷ [])))

abbrev pub is_wide_here : List SeenToken → ℕ → Bool
is_wide_here ts place = huge_stands (marks_from ts place) && is_number_part ts place

abbrev pub is_wide_before : List SeenToken → ℕ → Bool
is_wide_before ts place = name_stands (marks_from ts place) && (huge_stands (marks_from ts (place - 1)) && goes_with ts (place - 1) (Number ∷ Name ∷ []))

abbrev pub is_known_set : List SeenToken → ℕ → Bool
is_known_set ts place = name_stands (marks_from ts place) && goes_with ts place (Name ∷ Colon ∷ [])

abbrev pub is_known_label : List SeenToken → ℕ → Bool
is_known_label ts place = colon_stands (marks_from ts place) && (name_stands (marks_from ts (place - 1)) && goes_with ts (place - 1) (Name ∷ Colon ∷ []))

abbrev pub is_known_opening : List SeenToken → ℕ → Bool
is_known_opening ts place =
    set_kind_stands (marks_from ts place) && (colon_stands (marks_from ts (place - 1)) && (name_stands (marks_from ts (place - 2)) && goes_with ts (place - 2) (Name ∷ Colon ∷ SetKind ∷ [])))

abbrev pub is_duplicate : List SeenToken → ℕ → Bool
is_duplicate ts place = is_known_set ts place || (is_known_label ts place || is_known_opening ts place)

abbrev pub kind_by : Bool → Bool → Bool → Bool → FaultKind
kind_by true wide before duplicate = Unsupported
kind_by false true before duplicate = Wide
kind_by false false true duplicate = WideBefore
kind_by false false false true = Duplicate
kind_by false false false false = Syntax

unfoldable pub fault_kind : List SeenToken → ℕ → FaultKind
fault_kind ts place = kind_by (is_unsupported ts place) (is_wide_here ts place) (is_wide_before ts place) (is_duplicate ts place)
