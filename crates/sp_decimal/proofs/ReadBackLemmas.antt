-- The printed text of a decimal is read as that decimal.
use Rattle.std.proofs.Common.{◌≡◌, ◌≢◌, ℕ, nat_lt, false, suc, ◌+◌, ◌-◌, ◌*◌, ◌%◌, ◌^◌, ◌<◌, Ok, ℤ, pos, negsuc, refl, sym, ap, ◌∙◌, arith}
use Rattle.std.specs.Int.{is_negative}
use Rattle.std.specs.Int.RustNames.{unsigned_abs}
use Rattle.std.proofs.lemmas.Bool.Decides.{nat_tests}
use Rattle.std.proofs.lemmas.Nat.{pow-add}
use Rattle.std.proofs.Math.Nat.{eq_of_mul-eq-mul_right, mul_assoc, mul-mod_left, pow-suc, mul-le-mul_right}
use Rattle.sp_decimal.specs.DecimalFraction.{IsDecimal}
use Rattle.sp_decimal.specs.declared.numerals.Numeral.TheVariants.{Exact}
use Rattle.sp_decimal.specs.Numerals.{signed, numeral, fraction_numeral, IsFraction}
use Rattle.sp_decimal.specs.Printing.{printed}
use Rattle.sp_decimal.proofs.FractionAnswerLemmas.{told, told-unique}
use Rattle.sp_decimal.proofs.PowerLemmas.{power-positive}
use Rattle.sp_decimal.proofs.PrintedValueLemmas.{printed-reads}

-- a number with its own sign is itself
own_sign : (z : ℤ) → z ≡ signed (is_negative z) (unsigned_abs z)
own_sign (pos n) = let no : nat_lt n 0 ≡ false = grind (arith, nat_tests) in rw no refl
own_sign (negsuc n) = refl

-- a number whose last digit isn't 0 is no multiple of a power of ten
no_shorter : (a n s t : ℕ) → t < s → a % 10 ≢ 0 → n * 10 ^ s ≢ a * 10 ^ t
no_shorter a n s t lt last e =
    let k = s - t - 1 in
    let whole : s ≡ suc k + t = omega arith in
    let power : 10 ^ s ≡ 10 ^ k * 10 * 10 ^ t = ap (λ j. 10 ^ j) whole ∙ pow-add 10 (suc k) t ∙ ap (λ j. j * 10 ^ t) (pow-suc 10 k) in
    let moved : n * (10 ^ k * 10) * 10 ^ t ≡ a * 10 ^ t = mul_assoc n (10 ^ k * 10) (10 ^ t) ∙ ap (λ j. n * j) (sym power) ∙ e in
    let same : n * (10 ^ k * 10) ≡ a = eq_of_mul-eq-mul_right (10 ^ t) (power-positive t) (n * (10 ^ k * 10)) a moved in
    let ten : n * 10 ^ k * 10 ≡ a = mul_assoc n (10 ^ k) 10 ∙ same in
    last (ap (λ j. j % 10) (sym ten) ∙ mul-mod_left (n * 10 ^ k) 10)

-- a decimal is the fraction of its digits and its power of ten
decimal-fraction : (p : ℤ) (s : ℕ) → IsDecimal p s → IsFraction (is_negative p) (unsigned_abs p) (10 ^ s) (record { p = p; s = s })
decimal-fraction p s d =
    record {
      equal = refl;
      sign = own_sign p;
      small = d.small;
      places = d.places;
      fewest = λ t lt n. no_shorter (unsigned_abs p) n s t lt (d.least (omega arith));
    }

below-limit : (a s : ℕ) → a < 10 ^ 30 → a < 10 ^ 30 * 10 ^ s
below-limit a s h = omega (arith, mul-le-mul_right (10 ^ s) h, power-positive s)

decimal-read : (p : ℤ) (s : ℕ) → IsDecimal p s → fraction_numeral (is_negative p) (unsigned_abs p) (10 ^ s) ≡ Ok (Exact (record { p = p; s = s }))
decimal-read p s d =
    told-unique (is_negative p) (unsigned_abs p) (10 ^ s) _ (Ok (Exact (record { p = p; s = s }))) (power-positive s)
    (told (is_negative p) (unsigned_abs p) (10 ^ s) (power-positive s))
    (below-limit (unsigned_abs p) s d.small, decimal-fraction p s d)

-- the printed text of a decimal is read as that decimal
pub read_back : (p : ℤ) (s : ℕ) → IsDecimal p s → numeral (printed p s) ≡ Ok (Exact (record { p = p; s = s }))
read_back p s d = let small = d.small in printed-reads p s (omega arith) ∙ decimal-read p s d
