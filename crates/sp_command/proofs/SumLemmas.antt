-- Sums by the reader's places, and by their grammar.
use Rattle.std.proofs.Common.{◌≡◌, ◌↔◌, Bool, true, false, List, [], ◌∷◌, Option, Some, None, refl, sym, ap, ◌∙◌}
use Rattle.std.specs.Prelude.{if◌then◌else◌}
use Rattle.sp_decimal.specs.DecimalFraction.{DecimalFraction}
use Rattle.sp_command_words.specs.declared.keywords.Symbol.{Symbol}
use Rattle.sp_command_words.specs.declared.keywords.Symbol.TheVariants.{Plus, Minus, AtMost}
use Rattle.sp_command.specs.declared.places.Place.{Place}
use Rattle.sp_command.specs.declared.places.Place.TheVariants.{First, Next, Signed, Counted}
use Rattle.sp_command.specs.declared.places.Step.{Step}
use Rattle.sp_command.specs.declared.places.Step.TheVariants.{Bad, Ends, Goes, Names}
use Rattle.sp_command_words.specs.Keywords.{Word, symbol_of}
use Rattle.sp_command.specs.Values.{exact_of}
use Rattle.sp_command.specs.Filters.{SumTerm, Sum, is_number, begins_with_sign, coefficient_of, one, signed, counted as counted_step, counted_or_named, step_of, onto, goes_on, sum_from}
use Rattle.sp_command.specs.Sums.{IsSign, IsVariable, IsCoefficient, BeginsWithTerm, GoesOnWithTerms, BeginsWithSum, named, counted, ends, more, with_sign, without_sign}

-- ---- from the reader to the grammar

-- what a reader at a place has before it
abbrev At : Place → List Word → List SumTerm → List Word → Type 0
At First words terms rest = BeginsWithSum words terms rest
At Next words terms rest = GoesOnWithTerms words terms rest
At (Signed negative) words terms rest = (term : SumTerm) × (later : List SumTerm) × (behind : List Word) × BeginsWithTerm negative words term behind × GoesOnWithTerms behind later rest × (terms ≡ term ∷ later)
At (Counted d) words terms rest = (name : Word) × (later : List SumTerm) × (behind : List Word) × (words ≡ name ∷ behind) × IsVariable name × GoesOnWithTerms behind later rest × (terms ≡ (name, d) ∷ later)

-- the words are read at every place by the grammar
abbrev Reads : List Word → Type 0
Reads words = (place : Place) (terms : List SumTerm) (rest : List Word) → sum_from place words ≡ Some (terms, rest) → At place words terms rest

same-sum : (a b : Sum) → Some a ≡ Some b → a ≡ b
same-sum a b e = cc

onto-some : (term : SumTerm) (read : Option Sum) (terms : List SumTerm) (rest : List Word) → onto term read ≡ Some (terms, rest)
    → (later : List SumTerm) × (read ≡ Some (later, rest)) × (terms ≡ term ∷ later)
onto-some term None terms rest e = absurd cc
onto-some term (Some sum) terms rest e =
    let pair : (term ∷ sum.0, sum.1) ≡ (terms, rest) = same-sum (term ∷ sum.0, sum.1) (terms, rest) e in
    let behind : sum.1 ≡ rest = ap (λ (p : Sum). p.1) pair in
    (sum.0, rw (← behind) refl, sym (ap (λ (p : Sum). p.0) pair))

exact-unsigned : (begins : Bool) (exact : Option DecimalFraction) (d : DecimalFraction) → (if begins then None else exact) ≡ Some d → (begins ≡ false) × (exact ≡ Some d)
exact-unsigned true exact d e = absurd cc
exact-unsigned false exact d e = (refl, e)

named-at : (word : Word) (words : List Word) (negative number : Bool) (coefficient : Option DecimalFraction) → Reads words → symbol_of word ≡ None → is_number word ≡ number → coefficient_of word ≡ coefficient
    → (terms : List SumTerm) (rest : List Word) → goes_on (if number then counted_step negative coefficient else Names (signed negative one)) word words (λ next. sum_from next words) ≡ Some (terms, rest)
    → At (Signed negative) (word ∷ words) terms rest
named-at word words negative true None reads plain number is terms rest e = absurd cc
named-at word words negative true (Some d) reads plain number is terms rest e =
    let s = reads (Counted (signed negative d)) terms rest e in
    let x = exact-unsigned (begins_with_sign word) (exact_of word) d is in
    ((s.0, signed negative d), s.1, s.2, rw s.3 (counted (record { no_symbol = plain; number = number; no_sign = x.0; exact = x.1 }) s.4), s.5, s.6)
named-at word words negative false coefficient reads plain number is terms rest e =
    let s = onto-some (word, signed negative one) (sum_from Next words) terms rest e in
    ((word, signed negative one), s.0, words, named (record { no_symbol = plain; no_number = number }), reads Next s.0 rest s.1, s.2)

counted-at : (word : Word) (words : List Word) (d : DecimalFraction) (number : Bool) → Reads words → symbol_of word ≡ None → is_number word ≡ number
    → (terms : List SumTerm) (rest : List Word) → goes_on (if number then Bad else Names d) word words (λ next. sum_from next words) ≡ Some (terms, rest) → At (Counted d) (word ∷ words) terms rest
counted-at word words d true reads plain number terms rest e = absurd cc
counted-at word words d false reads plain number terms rest e =
    let s = onto-some (word, d) (sum_from Next words) terms rest e in
    (word, s.0, words, refl, record { no_symbol = plain; no_number = number }, reads Next s.0 rest s.1, s.2)

word-at : (word : Word) (words : List Word) (place : Place) (symbol : Option Symbol) → Reads words → symbol_of word ≡ symbol
    → (terms : List SumTerm) (rest : List Word) → goes_on (step_of place symbol word) word words (λ next. sum_from next words) ≡ Some (terms, rest) → At place (word ∷ words) terms rest
word-at word words First (Some Plus) reads is terms rest e = let s = reads (Signed false) terms rest e in rw s.5 (with_sign {negative = false} is s.3 s.4)
word-at word words First (Some Minus) reads is terms rest e = let s = reads (Signed true) terms rest e in rw s.5 (with_sign {negative = true} is s.3 s.4)
word-at word words First (Some AtMost) reads is terms rest e = absurd cc
word-at word words First None reads is terms rest e = let s = named-at word words false (is_number word) (coefficient_of word) reads is refl refl terms rest e in rw s.5 (without_sign s.3 s.4)
word-at word words Next (Some Plus) reads is terms rest e = let s = reads (Signed false) terms rest e in rw s.5 (more {negative = false} is s.3 s.4)
word-at word words Next (Some Minus) reads is terms rest e = let s = reads (Signed true) terms rest e in rw s.5 (more {negative = true} is s.3 s.4)
word-at word words Next (Some AtMost) reads is terms rest e =
    let pair : ([], words) ≡ (terms, rest) = same-sum ([], words) (terms, rest) e in
    let no_terms : terms ≡ [] = sym (ap (λ (p : Sum). p.0) pair) in
    let same : rest ≡ words = sym (ap (λ (p : Sum). p.1) pair) in
    rw (no_terms, same) (ends is)
word-at word words Next None reads is terms rest e = absurd cc
word-at word words (Signed negative) (Some symbol) reads is terms rest e = absurd cc
word-at word words (Signed negative) None reads is terms rest e = named-at word words negative (is_number word) (coefficient_of word) reads is refl refl terms rest e
word-at word words (Counted d) (Some symbol) reads is terms rest e = absurd cc
word-at word words (Counted d) None reads is terms rest e = counted-at word words d (is_number word) reads is refl terms rest e

words-at : (words : List Word) → Reads words
words-at [] place terms rest e = absurd cc
words-at (word ∷ words) place terms rest e = word-at word words place (symbol_of word) (words-at words) refl terms rest e

-- ---- from the grammar to the reader

sign-read : (sign : Word) (negative : Bool) (words : List Word) → IsSign sign negative → (sum_from Next (sign ∷ words) ≡ sum_from (Signed negative) words) × (sum_from First (sign ∷ words) ≡ sum_from (Signed negative) words)
sign-read sign false words is = (rw is refl, rw is refl)
sign-read sign true words is = (rw is refl, rw is refl)

name-read : (name : Word) (negative : Bool) (words : List Word) → IsVariable name → sum_from (Signed negative) (name ∷ words) ≡ onto (name, signed negative one) (sum_from Next words)
name-read name negative words v = rw (v.no_symbol, v.no_number) refl

counted-read : (name : Word) (d : DecimalFraction) (words : List Word) → IsVariable name → sum_from (Counted d) (name ∷ words) ≡ onto (name, d) (sum_from Next words)
counted-read name d words v = rw (v.no_symbol, v.no_number) refl

number-read : (number : Word) (negative : Bool) (d : DecimalFraction) (words : List Word) → IsCoefficient number d → sum_from (Signed negative) (number ∷ words) ≡ sum_from (Counted (signed negative d)) words
number-read number negative d words k = rw (k.no_symbol, k.number, k.no_sign, k.exact) refl

term-read : (negative : Bool) (words : List Word) (term : SumTerm) (behind : List Word) → BeginsWithTerm negative words term behind → sum_from (Signed negative) words ≡ onto term (sum_from Next behind)
term-read negative words term behind (named {name = name} {rest = last} v) = name-read name negative last v
term-read negative words term behind (counted {number = number} {name = name} {d = d} {rest = last} k v) = number-read number negative d (name ∷ last) k ∙ counted-read name (signed negative d) last v

-- the first term may stand without its sign
first-read : (words : List Word) (term : SumTerm) (behind : List Word) → BeginsWithTerm false words term behind → sum_from First words ≡ sum_from (Signed false) words
first-read words term behind (named v) = rw v.no_symbol refl
first-read words term behind (counted k v) = rw k.no_symbol refl

tail-read : (words : List Word) (terms : List SumTerm) (rest : List Word) → GoesOnWithTerms words terms rest → sum_from Next words ≡ Some (terms, rest)
tail-read words terms rest (ends is) = rw is refl
tail-read words terms rest (more {sign = sign} {negative = negative} {words = inner} {behind = behind} {rest = last} {term = term} {terms = later} is op tail) =
    (sign-read sign negative inner is).0 ∙ term-read negative inner term behind op ∙ ap (onto term) (tail-read behind later last tail)

sum-read : (words : List Word) (terms : List SumTerm) (rest : List Word) → BeginsWithSum words terms rest → sum_from First words ≡ Some (terms, rest)
sum-read words terms rest (with_sign {sign = sign} {negative = negative} {words = inner} {behind = behind} {rest = last} {term = term} {terms = later} is op tail) =
    (sign-read sign negative inner is).1 ∙ term-read negative inner term behind op ∙ ap (onto term) (tail-read behind later last tail)
sum-read words terms rest (without_sign {words = inner} {behind = behind} {rest = last} {term = term} {terms = later} op tail) =
    first-read inner term behind op ∙ term-read false inner term behind op ∙ ap (onto term) (tail-read behind later last tail)

pub sum-by-grammar : (words : List Word) (terms : List SumTerm) (rest : List Word) → (sum_from First words ≡ Some (terms, rest)) ↔ BeginsWithSum words terms rest
sum-by-grammar words terms rest = (words-at words First terms rest, sum-read words terms rest)
