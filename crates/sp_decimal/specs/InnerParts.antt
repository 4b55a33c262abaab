-- A text without sign, cut into the parts of a numeral.
use Rattle.std.specs.Prelude.{◌≡◌, ℕ, Bool, true, false, ◌&&◌, ◌⊎◌, if◌then◌else◌, List, [], ◌∷◌, ◌++◌, Option, None, Some}
use Rattle.std.specs.List.{list_all}
use Rattle.std.specs.Char.{is_ascii_digit}
use Rattle.sp_decimal.specs.Grammar.{is_point, is_exponent_letter, some_digits, unsigned, mantissa, exponent, whole_part, fraction_part}

-- whether a digit stands first
abbrev pub starts_with_digit : List ℕ → Bool
starts_with_digit [] = false
starts_with_digit (b ∷ rest) = is_ascii_digit b

-- the text is these digits and then the rest, which no digit begins
pub record IsDigitRun (text digits rest : List ℕ) : Type 0 where
  pub joined : text ≡ digits ++ rest
  pub all : list_all is_ascii_digit digits ≡ true
  pub ends : starts_with_digit rest ≡ false

-- whether a full stop stands first
abbrev pub starts_with_point : List ℕ → Bool
starts_with_point [] = false
starts_with_point (b ∷ rest) = is_point b

-- the text begins with digits, a full stop and digits, or with digits alone where no full stop follows them
pub record BeginsWith (text whole fraction rest : List ℕ) : Type 0 where
  pub joined : ((text ≡ whole ++ rest) × (fraction ≡ []) × (starts_with_point rest ≡ false)) ⊎ (text ≡ whole ++ (46 ∷ (fraction ++ rest)))
  pub all_whole : list_all is_ascii_digit whole ≡ true
  pub all_fraction : list_all is_ascii_digit fraction ≡ true
  pub ends : starts_with_digit rest ≡ false

-- what stands behind an exponent's letter that begins the text, where it is an exponent, or nothing of an empty text
abbrev pub power_behind : List ℕ → Option (List ℕ)
power_behind [] = Some []
power_behind (b ∷ power) = if is_exponent_letter b && some_digits (unsigned power) then Some power else None

-- the parts of a numeral without sign
pub record IsCut (text whole fraction power : List ℕ) : Type 0 where
  pub before_point : whole ≡ whole_part (mantissa text)
  pub behind_point : fraction ≡ fraction_part (mantissa text)
  pub behind_letter : power ≡ exponent text
