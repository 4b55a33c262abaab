-- The commands on filters.
use Rattle.std.specs.Prelude.{ℕ, ◌^◌, Bool, true, false, ◌||◌, ◌==◌, nat_le, if◌then◌else◌, List, [], ◌∷◌, length, Option, Some, None, Result, Ok, Err, ℤ, pos, neg_ℤ}
use Rattle.std.specs.Option.{option_map, option_and_then}
use Rattle.sp_decimal.specs.DecimalFraction.{DecimalFraction, opposite}
use Rattle.sp_decimal.specs.Numerals.{numeral}
use Rattle.sp_decimal.specs.declared.numerals.Numeral.{Numeral}
use Rattle.sp_decimal.specs.declared.numerals.NumeralFault.{NumeralFault}
use Rattle.sp_decimal.specs.declared.numerals.NumeralFault.TheVariants.{NotNumeral, Wide}
use Rattle.sp_command.specs.declared.commands.Command.{Command}
use Rattle.sp_command.specs.declared.commands.Command.TheVariants.{FilterRange, FilterDiversity, FilterDelete}
use Rattle.sp_command_words.specs.declared.keywords.Symbol.{Symbol}
use Rattle.sp_command_words.specs.declared.keywords.Symbol.TheVariants.{Plus, Minus, AtMost}
use Rattle.sp_command.specs.declared.places.Place.{Place}
use Rattle.sp_command.specs.declared.places.Place.TheVariants.{First, Next, Signed, Counted}
use Rattle.sp_command.specs.declared.places.Step.{Step}
use Rattle.sp_command.specs.declared.places.Step.TheVariants.{Bad, Ends, Goes, Names}
use Rattle.sp_command_words.specs.Keywords.{Word, symbol_of}
use Rattle.sp_command.specs.Values.{whole, lower_of, upper_of, exact_of}
use Rattle.sp_command.specs.Commands.{only}

-- a filter's name has at most 255 bytes
abbrev pub is_filter_name : Word → Bool
is_filter_name word = nat_le (length word) 255

-- ---- filter range NAME LO <= EXPR <= HI

-- a term of a sum: the name of a variable, and its coefficient
abbrev pub SumTerm : Type 0
SumTerm = Word × DecimalFraction

abbrev pub is_numeral_result : Result Numeral NumeralFault → Bool
is_numeral_result (Ok n) = true
is_numeral_result (Err NotNumeral) = false
is_numeral_result (Err Wide) = true

-- a word that is a numeral, with a sign or without, is no name
unfoldable pub is_number : Word → Bool
is_number word = is_numeral_result (numeral word)

abbrev pub begins_with_sign : Word → Bool
begins_with_sign [] = false
begins_with_sign (byte ∷ bytes) = (byte == 43) || (byte == 45)

-- a coefficient is an exact numeral without a sign
abbrev pub coefficient_of : Word → Option DecimalFraction
coefficient_of word = if begins_with_sign word then None else exact_of word

abbrev pub one : DecimalFraction
one = record { p = pos 1; s = 0 }

abbrev pub signed : Bool → DecimalFraction → DecimalFraction
signed negative d = if negative then opposite d else d

-- what a number does after a sign, or at the first term
abbrev pub counted : Bool → Option DecimalFraction → Step
counted negative None = Bad
counted negative (Some d) = Goes (Counted (signed negative d))

-- a number or a name, after a sign or at the first term
abbrev pub counted_or_named : Bool → Word → Step
counted_or_named negative word = if is_number word then counted negative (coefficient_of word) else Names (signed negative one)

-- a word where a term may begin, must begin, has its sign, or has its coefficient
abbrev pub step_of : Place → Option Symbol → Word → Step
step_of First (Some Plus) word = Goes (Signed false)
step_of First (Some Minus) word = Goes (Signed true)
step_of First (Some AtMost) word = Bad
step_of First None word = counted_or_named false word
step_of Next (Some Plus) word = Goes (Signed false)
step_of Next (Some Minus) word = Goes (Signed true)
step_of Next (Some AtMost) word = Ends
step_of Next None word = Bad
step_of (Signed negative) (Some symbol) word = Bad
step_of (Signed negative) None word = counted_or_named negative word
step_of (Counted d) (Some symbol) word = Bad
step_of (Counted d) None word = if is_number word then Bad else Names d

-- a sum up to its comparison, and the words behind that
abbrev pub Sum : Type 0
Sum = List SumTerm × List Word

abbrev pub onto : SumTerm → Option Sum → Option Sum
onto term None = None
onto term (Some sum) = Some (term ∷ sum.0, sum.1)

abbrev pub goes_on : Step → Word → List Word → (Place → Option Sum) → Option Sum
goes_on Bad word words later = None
goes_on Ends word words later = Some ([], words)
goes_on (Goes place) word words later = later place
goes_on (Names d) word words later = onto (word, d) (later Next)

-- the sum that these words begin with
abbrev pub sum_from : Place → List Word → Option Sum
sum_from place [] = None
sum_from place (word ∷ words) = goes_on (step_of place (symbol_of word) word) word words (λ next. sum_from next words)

abbrev pub is_at_most : Option Symbol → Bool
is_at_most (Some AtMost) = true
is_at_most (Some Plus) = false
is_at_most (Some Minus) = false
is_at_most None = false

abbrev pub range_sum : Word → Option DecimalFraction → Option Sum → Option Command
range_sum name lo None = None
range_sum name lo (Some sum) = option_map (λ hi. FilterRange name lo sum.0 hi) (option_and_then upper_of (only sum.1))

abbrev pub range_above : Word → Option DecimalFraction → List Word → Option Command
range_above name lo [] = None
range_above name lo (at_most ∷ words) = if is_at_most (symbol_of at_most) then range_sum name lo (sum_from First words) else None

abbrev pub range_named : Word → List Word → Option Command
range_named name [] = None
range_named name (lo ∷ words) = option_and_then (λ least. range_above name least words) (lower_of lo)

abbrev pub range_of : List Word → Option Command
range_of [] = None
range_of (name ∷ words) = if is_filter_name name then range_named name words else None

-- ---- filter diversity NAME LO HI T ..

-- a term: the name of a variable, its weight, and what it is compared with
abbrev pub DistanceTerm : Type 0
DistanceTerm = Word × DecimalFraction × ℤ

abbrev pub is_colon : ℕ → Bool
is_colon byte = byte == 58

-- what stands before the last colon, and what stands behind it
abbrev pub longer : ℕ → List ℕ → Option (Word × Word) → Option (Word × Word)
longer byte bytes None = if is_colon byte then Some ([], bytes) else None
longer byte bytes (Some cut) = Some (byte ∷ cut.0, cut.1)

abbrev pub cut_last : Word → Option (Word × Word)
cut_last [] = None
cut_last (byte ∷ bytes) = longer byte bytes (cut_last bytes)

-- a whole number of at most 10^15, with a minus directly before it or without
abbrev pub reference_of : Word → Option ℤ
reference_of [] = None
reference_of (byte ∷ digits) = if byte == 45 then option_map (λ n. neg_ℤ (pos n)) (whole 0 (10 ^ 15) digits) else option_map (λ n. pos n) (whole 0 (10 ^ 15) (byte ∷ digits))

abbrev pub distance_with : Word → Word → ℤ → Option DistanceTerm
distance_with name weight reference = option_map (λ w. (name, w, reference)) (exact_of weight)

abbrev pub distance_named : Word → Word → Option ℤ → Option DistanceTerm
distance_named name weight None = None
distance_named name weight (Some reference) = if length name == 0 then None else distance_with name weight reference

abbrev pub distance_in : Word → Option (Word × Word) → Option DistanceTerm
distance_in reference None = None
distance_in reference (Some cut) = distance_named cut.0 cut.1 (reference_of reference)

abbrev pub distance_cut : Option (Word × Word) → Option DistanceTerm
distance_cut None = None
distance_cut (Some cut) = distance_in cut.1 (cut_last cut.0)

-- var:weight:ref
abbrev pub distance_of : Word → Option DistanceTerm
distance_of word = distance_cut (cut_last word)

abbrev pub joined : Option DistanceTerm → Option (List DistanceTerm) → Option (List DistanceTerm)
joined None later = None
joined (Some term) None = None
joined (Some term) (Some terms) = Some (term ∷ terms)

abbrev pub distances_from : List Word → Option (List DistanceTerm)
distances_from [] = Some []
distances_from (word ∷ words) = joined (distance_of word) (distances_from words)

-- one or more terms
abbrev pub distances : List Word → Option (List DistanceTerm)
distances [] = None
distances (word ∷ words) = distances_from (word ∷ words)

abbrev pub diversity_within : Word → Option DecimalFraction → Option DecimalFraction → List Word → Option Command
diversity_within name lo hi words = option_map (λ terms. FilterDiversity name lo hi terms) (distances words)

abbrev pub diversity_above : Word → Option DecimalFraction → List Word → Option Command
diversity_above name lo [] = None
diversity_above name lo (hi ∷ words) = option_and_then (λ greatest. diversity_within name lo greatest words) (upper_of hi)

abbrev pub diversity_named : Word → List Word → Option Command
diversity_named name [] = None
diversity_named name (lo ∷ words) = option_and_then (λ least. diversity_above name least words) (lower_of lo)

abbrev pub diversity_of : List Word → Option Command
diversity_of [] = None
diversity_of (name ∷ words) = if is_filter_name name then diversity_named name words else None

-- ---- filter delete NAME

abbrev pub delete_named : Word → Option Command
delete_named name = if is_filter_name name then Some (FilterDelete name) else None

abbrev pub delete_of : List Word → Option Command
delete_of words = option_and_then delete_named (only words)
