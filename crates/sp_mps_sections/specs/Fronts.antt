-- Facts about a front of the lines of a file.
use Rattle.std.specs.Prelude.{ℕ, ◌-◌, Bool, false, ◌==◌, if◌then◌else◌, List, [], ◌∷◌, ◌++◌, length, Option, Some, None, slice_get}
use Rattle.sp_mps_words.specs.declared.heads.Head.{Head}
use Rattle.sp_mps_words.specs.declared.heads.Head.TheVariants.{Name, Objsense, Rows, Columns, Rhs, Ranges, Bounds, Indicators, Endata}
use Rattle.sp_mps_words.specs.declared.line_kinds.LineKind.{LineKind}
use Rattle.sp_mps_words.specs.declared.line_kinds.LineKind.TheVariants.{Ignored, Section, Data}
use Rattle.sp_mps_words.specs.Heads.{head_of}
use Rattle.sp_mps_words.specs.Lines.{Line}
use Rattle.sp_mps_words.specs.Words.{Word, word_at}

-- what the lines give one after the other, each by the lines before it
abbrev pub each : {X : Type 0} → (List Line → Line → List X) → List Line → List Line → List X
each f before [] = []
each f before (l ∷ ls) = f before l ++ each f (before ++ l ∷ []) ls

abbrev pub listed : {X : Type 0} → Option X → List X
listed None = []
listed (Some x) = x ∷ []

abbrev pub first_of : {X : Type 0} → List X → Option X
first_of [] = None
first_of (x ∷ xs) = Some x

abbrev pub last_of : {X : Type 0} → List X → Option X
last_of xs = slice_get xs (length xs - 1)

-- the head of a section line
abbrev pub heads_in : LineKind → List Word → List Head
heads_in Section words = listed (head_of (word_at words 0))
heads_in Ignored words = []
heads_in Data words = []

-- the heads of the section lines
unfoldable pub heads : List Line → List Head
heads lines = each (λ before l. heads_in l.kind l.words) [] lines

-- the section that a line behind these stands in
abbrev pub section_behind : List Line → Option Head
section_behind before = last_of (heads before)

-- the place of a head in the table of heads
abbrev pub number_of : Head → ℕ
number_of Name = 1
number_of Objsense = 2
number_of Rows = 3
number_of Columns = 4
number_of Rhs = 5
number_of Ranges = 6
number_of Bounds = 7
number_of Indicators = 8
number_of Endata = 9

-- the section is the one that is asked for
abbrev pub is_section : Head → Option Head → Bool
is_section wanted None = false
is_section wanted (Some head) = number_of wanted == number_of head

-- a line of this kind, in this section or in none yet, is a data line of the section that is asked for
abbrev pub is_data_of : Head → Option Head → LineKind → Bool
is_data_of wanted section Ignored = false
is_data_of wanted section Section = false
is_data_of wanted section Data = is_section wanted section

-- what the data lines of a section give, each by the lines before it and its words
abbrev pub in_section : {X : Type 0} → Head → (List Line → List Word → List X) → List Line → List X
in_section head f lines =
    each (λ before l. if is_data_of head (section_behind before) l.kind then f before l.words else []) [] lines
