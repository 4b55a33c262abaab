-- A file as a list of lines, each of them ignored, a section line or a data line, with its words.
use Rattle.std.specs.Prelude.{ℕ, Bool, false, ◌||◌, ◌==◌, if◌then◌else◌, List, [], ◌∷◌, length, map}
use Rattle.sp_base.specs.Lines.{lines}
use Rattle.sp_base.specs.Fields.{fields, is_blank}
use Rattle.sp_mps_words.specs.declared.line_kinds.LineKind.{LineKind}
use Rattle.sp_mps_words.specs.declared.line_kinds.LineKind.TheVariants.{Ignored, Section, Data}
use Rattle.sp_mps_words.specs.Words.{Word}

pub record Line : Type 0 where
  pub kind : LineKind
  pub words : List Word

abbrev pub star_first : List ℕ → Bool
star_first [] = false
star_first (byte ∷ bytes) = byte == 42

abbrev pub blank_first : List ℕ → Bool
blank_first [] = false
blank_first (byte ∷ bytes) = is_blank byte

-- a comment, or a line without words
abbrev pub is_ignored : List ℕ → Bool
is_ignored bytes = star_first bytes || (length (fields bytes) == 0)

abbrev pub kind_of_line : List ℕ → LineKind
kind_of_line bytes = if is_ignored bytes then Ignored else (if blank_first bytes then Data else Section)

unfoldable pub line_of : List ℕ → Line
line_of bytes = record { kind = kind_of_line bytes; words = fields bytes }

-- the lines of a file
unfoldable pub lines_of : List ℕ → List Line
lines_of bytes = map line_of (lines bytes)
