-- What comes next in a file.
use Rattle.std.specs.Prelude.{◌≡◌, ℕ, ◌+◌, false, List, length, drop}
use Rattle.sp_lp_tokens.specs.declared.reading.Next.{Next}
use Rattle.sp_lp_tokens.specs.declared.reading.Next.TheVariants as nexts
use Rattle.sp_lp_tokens.specs.declared.reading.Rest.{Rest}
use Rattle.sp_lp_tokens.specs.declared.token_types.Token.{Token}
use Rattle.sp_lp_tokens.specs.declared.token_types.TokenRefusal.{TokenRefusal}
use Rattle.sp_lp_tokens.specs.declared.token_types.TokenRefusal.TheVariants as refusals
use Rattle.sp_lp_tokens.specs.Gaps.{gap_length}
use Rattle.sp_lp_tokens.specs.Tokens.{IsNextToken, IsNextFault, IsFirstFault, Ending, Complete, Faulty, ends_list}

-- what is left from the place on begins so
abbrev pub IsNext : List ℕ → ℕ → Next → Type 0
IsNext source place nexts.Nothing = place + gap_length false (drop place source) ≡ length source
IsNext source place (nexts.Fault line kind) = IsNextFault source place line kind
IsNext source place (nexts.Token t) = IsNextToken source place t

-- what is left behind the token
abbrev pub rest_behind : List ℕ → ℕ → Token → Rest
rest_behind source line_before t = record { place = t.end; line = t.line; line_before = t.line; ended = ends_list source line_before t }

-- the cause of a refusal: the first fault of the file; want of memory needs none
abbrev pub IsRefusal : List ℕ → TokenRefusal → Type 0
IsRefusal source (refusals.Fault line kind) = IsFirstFault source line kind
IsRefusal source refusals.NoMemory = Unit {0}

-- the tokens are these, and their list is complete
abbrev pub IsListOf : List Token → Ending → List Token → Type 0
IsListOf ts Complete found = found ≡ ts
IsListOf ts (Faulty line kind) found = ⊥

-- the refusal tells how the list ends, unless it is want of memory
abbrev pub IsRefusalOf : Ending → TokenRefusal → Type 0
IsRefusalOf Complete (refusals.Fault line kind) = ⊥
IsRefusalOf (Faulty at found) (refusals.Fault line kind) = (line ≡ at) × (kind ≡ found)
IsRefusalOf ending refusals.NoMemory = Unit {0}
