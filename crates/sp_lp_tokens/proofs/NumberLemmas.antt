-- A number has no sign, so it is a numeral as it stands.
use Rattle.std.proofs.Common.{◌≡◌, ◌↔◌, ℕ, true, false, eqb, List, [], ◌∷◌, refl, ap, sym, ◌∙◌, ⊎_elim}
use Rattle.std.specs.Prelude.{Result, Err}
use Rattle.std.proofs.lemmas.Bool.{both_ways, eqb-true, false_from_ne_true, or_cases}
use Rattle.sp_decimal.specs.declared.numerals.Numeral.{Numeral}
use Rattle.sp_decimal.specs.declared.numerals.NumeralFault.{NumeralFault}
use Rattle.sp_decimal.specs.declared.numerals.NumeralFault.TheVariants.{NotNumeral}
use Rattle.sp_decimal.specs.Grammar.{unsigned, is_sign, is_plain_numeral}
use Rattle.sp_decimal.specs.Numerals.{numeral}
use Rattle.sp_decimal.specs.Readings.{IsReading}
use Rattle.sp_lp_tokens.specs.Texts.{is_number}
use Rattle.sp_lp_tokens.proofs.KindsApartLemmas.{begins_number, number_begins}

is_no : (b c : ℕ) → begins_number c ≡ false → begins_number b ≡ true → eqb b c ≡ true → ⊥
is_no b c none h e = both_ways (begins_number c) none (ap begins_number (sym (eqb-true b c e)) ∙ h)

no_sign : (b : ℕ) → begins_number b ≡ true → is_sign b ≡ false
no_sign b h = false_from_ne_true _ (λ s. ⊎_elim (is_no b 43 refl h) (is_no b 45 refl h) (or_cases (eqb b 43) (eqb b 45) s))

unsigned-number : (text : List ℕ) → is_number text ≡ true → unsigned text ≡ text
unsigned-number [] h = refl
unsigned-number (b ∷ more) h = rw (no_sign b (number_begins b more h)) refl

-- a number is read as one
pub number_is_numeral : (text : List ℕ) → is_number text ≡ true → ((answer : Result Numeral NumeralFault) → (numeral text ≡ answer) ↔ IsReading text answer) → numeral text ≡ Err NotNumeral → ⊥
number_is_numeral text h says e = ((says (Err NotNumeral)).0 e).1 (ap is_plain_numeral (unsigned-number text h) ∙ h)
