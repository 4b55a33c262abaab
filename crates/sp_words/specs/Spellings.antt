-- The spellings in a text, and which texts make a table of keywords.
use Rattle.std.specs.Prelude.{◌≡◌, ◌≢◌, ℕ, ◌+◌, ◌≤◌, ◌⊎◌, Bool, true, false, not, ◌&&◌, ◌==◌, List, [], ◌∷◌, length}
use Rattle.std.specs.List.{All, AllPairs, slice_split, list_any}
use Rattle.std.specs.Str.{str_eq_ignore_ascii_case}

-- a single blank parts two spellings
abbrev pub is_blank : ℕ → Bool
is_blank byte = byte == 32

-- the pieces between single blanks; the empty text has none
abbrev pub spellings : List ℕ → List (List ℕ)
spellings [] = []
spellings (byte ∷ bytes) = slice_split is_blank (byte ∷ bytes)

-- one of A to Z, and the same letter of a to z
pub record IsCapitalOf (capital small : ℕ) : Type 0 where
  pub low : 65 ≤ capital
  pub high : capital ≤ 90
  pub small_is : small ≡ capital + 32

-- the same byte, or one letter in two cases
abbrev pub IsSameByte : ℕ → ℕ → Type 0
IsSameByte a b = (a ≡ b) ⊎ (IsCapitalOf a b ⊎ IsCapitalOf b a)

-- equal when the case of A to Z is ignored
abbrev pub same_word : List ℕ → List ℕ → Bool
same_word a b = str_eq_ignore_ascii_case a b

abbrev pub is_empty_word : List ℕ → Bool
is_empty_word word = length word == 0

-- n words, none empty, and no two the same
pub record IsTable (n : ℕ) (words : List (List ℕ)) : Type 0 where
  pub count : length words ≡ n
  pub filled : All (λ word. word ≢ []) words
  pub apart : AllPairs (λ a b. same_word a b ≡ false) words

-- tested word by word: it is not empty, and not the same as a later one
abbrev pub are_keywords : List (List ℕ) → Bool
are_keywords [] = true
are_keywords (word ∷ words) = not (is_empty_word word) && (not (list_any (same_word word) words) && are_keywords words)

-- the spellings in the text make a table of n
abbrev pub is_table : List ℕ → ℕ → Bool
is_table text n = (length (spellings text) == n) && are_keywords (spellings text)
