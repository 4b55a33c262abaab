-- What stands between the tokens of an LP file, and its lines.
use Rattle.std.specs.Prelude.{◌≡◌, ℕ, suc, ◌+◌, Bool, true, false, not, ◌||◌, ◌==◌, if◌then◌else◌, List, [], ◌∷◌, ◌++◌, take, count_by, Option, None, Some}
use Rattle.std.specs.List.{list_all}

-- a line feed ends a line
abbrev pub is_feed : ℕ → Bool
is_feed b = b == 10

-- a space, a tab or a carriage return
abbrev pub is_blank : ℕ → Bool
is_blank b = (b == 32) || ((b == 9) || (b == 13))

-- a backslash starts a comment, which goes to the end of its line
abbrev pub is_backslash : ℕ → Bool
is_backslash b = b == 92

-- how many bytes stand before the next token: blanks, line feeds and comments. The flag says that a comment goes on
unfoldable pub gap_length : Bool → List ℕ → ℕ
gap_length comment [] = 0
gap_length true (b ∷ bs) = suc (gap_length (not (is_feed b)) bs)
gap_length false (b ∷ bs) = if is_blank b || is_feed b then suc (gap_length false bs) else (if is_backslash b then suc (gap_length true bs) else 0)

-- the number of the line in which the byte at the place stands, from 1
unfoldable pub line_at : List ℕ → ℕ → ℕ
line_at source place = count_by is_feed (take place source) + 1

-- the parts of a gap: a blank or a line feed, or a comment with the line feed that ends it
pub data GapPart : Type 0 where
  Space : ℕ → GapPart
  Comment : List ℕ → GapPart

abbrev pub has_no_feed : List ℕ → Bool
has_no_feed text = list_all (λ b. not (is_feed b)) text

abbrev pub is_part : GapPart → Bool
is_part (Space b) = is_blank b || is_feed b
is_part (Comment text) = has_no_feed text

-- the text of some parts, and of a comment at the end of the file that no line feed ends, or of none
abbrev pub spelled : List GapPart → Option (List ℕ) → List ℕ
spelled [] None = []
spelled [] (Some text) = 92 ∷ text
spelled (Space b ∷ parts) last = b ∷ spelled parts last
spelled (Comment text ∷ parts) last = 92 ∷ (text ++ 10 ∷ spelled parts last)

abbrev pub is_open : Option (List ℕ) → Bool
is_open None = true
is_open (Some text) = has_no_feed text

-- blanks, line feeds and comments, of which the last one need not be ended
pub record IsGap (text : List ℕ) : Type 0 where
  pub parts : List GapPart
  pub last : Option (List ℕ)
  pub parts_are : list_all is_part parts ≡ true
  pub last_is : is_open last ≡ true
  pub text_is : text ≡ spelled parts last
