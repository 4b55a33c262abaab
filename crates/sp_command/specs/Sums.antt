-- The grammar of the sum in a range filter: one or more terms, each but the first with its sign, and then `<=`.
use Rattle.std.specs.Prelude.{◌≡◌, Bool, true, false, List, [], ◌∷◌, Option, Some, None}
use Rattle.sp_decimal.specs.DecimalFraction.{DecimalFraction}
use Rattle.sp_command_words.specs.declared.keywords.Symbol.{Symbol}
use Rattle.sp_command_words.specs.declared.keywords.Symbol.TheVariants.{Plus, Minus, AtMost}
use Rattle.sp_command_words.specs.Keywords.{Word, symbol_of}
use Rattle.sp_command.specs.Values.{exact_of}
use Rattle.sp_command.specs.Filters.{SumTerm, is_number, begins_with_sign, one, signed}

-- the word is a sign, and whether that is the minus
abbrev pub IsSign : Word → Bool → Type 0
IsSign word false = symbol_of word ≡ Some Plus
IsSign word true = symbol_of word ≡ Some Minus

-- the word is a variable's name: no sign, no `<=` and no numeral
pub record IsVariable (word : Word) : Type 0 where
  pub no_symbol : symbol_of word ≡ None
  pub no_number : is_number word ≡ false

-- the word is a coefficient: an exact numeral without a sign
pub record IsCoefficient (word : Word) (d : DecimalFraction) : Type 0 where
  pub no_symbol : symbol_of word ≡ None
  pub number : is_number word ≡ true
  pub no_sign : begins_with_sign word ≡ false
  pub exact : exact_of word ≡ Some d

-- the words begin with a term behind its sign, a name alone or a coefficient and a name; and what stands behind it
pub data BeginsWithTerm (negative : Bool) : List Word → SumTerm → List Word → Type 0 where
  named : {name : Word} {rest : List Word} → IsVariable name → BeginsWithTerm negative (name ∷ rest) (name, signed negative one) rest
  counted : {number name : Word} {d : DecimalFraction} {rest : List Word} → IsCoefficient number d → IsVariable name
      → BeginsWithTerm negative (number ∷ name ∷ rest) (name, signed negative d) rest

-- the words go on with terms that have their signs, and end the sum with `<=`; and what stands behind that
pub data GoesOnWithTerms : List Word → List SumTerm → List Word → Type 0 where
  ends : {at_most : Word} {rest : List Word} → symbol_of at_most ≡ Some AtMost → GoesOnWithTerms (at_most ∷ rest) [] rest
  more : {sign : Word} {negative : Bool} {words behind rest : List Word} {term : SumTerm} {terms : List SumTerm}
      → IsSign sign negative → BeginsWithTerm negative words term behind → GoesOnWithTerms behind terms rest → GoesOnWithTerms (sign ∷ words) (term ∷ terms) rest

-- the words begin with a sum of these terms and its `<=`; and what stands behind that
pub data BeginsWithSum : List Word → List SumTerm → List Word → Type 0 where
  with_sign : {sign : Word} {negative : Bool} {words behind rest : List Word} {term : SumTerm} {terms : List SumTerm}
      → IsSign sign negative → BeginsWithTerm negative words term behind → GoesOnWithTerms behind terms rest → BeginsWithSum (sign ∷ words) (term ∷ terms) rest
  without_sign : {words behind rest : List Word} {term : SumTerm} {terms : List SumTerm}
      → BeginsWithTerm false words term behind → GoesOnWithTerms behind terms rest → BeginsWithSum words (term ∷ terms) rest
