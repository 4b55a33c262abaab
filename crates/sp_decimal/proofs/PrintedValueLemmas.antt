-- The printed text is read back as what was printed, and nothing of it could be left out.
use Rattle.std.proofs.Common.{◌≡◌, ◌≢◌, ℕ, zero, suc, ◌+◌, ◌-◌, ◌*◌, ◌/◌, ◌%◌, ◌^◌, ◌<◌, ◌≤◌, Bool, List, [], ◌++◌, length, get_or, ℤ, unsigned_abs, refl, sym, ap, ◌∙◌, arith, subst}
use Rattle.std.specs.Int.{is_negative}
use Rattle.std.specs.Fmt.{decimal, sign_text}
use Rattle.std.proofs.lemmas.Fmt.{decimal_digit}
use Rattle.std.proofs.lemmas.Nat.{div-add-mod', pow-add}
use Rattle.std.proofs.Math.Nat.{add-mul, mul_assoc, mul_comm, mul_right_comm}
use Rattle.sp_decimal.specs.Grammar.{value_of, unsigned, top, bottom}
use Rattle.sp_decimal.specs.Numerals.{numeral, fraction_numeral}
use Rattle.sp_decimal.specs.Printing.{filled, without_zeros, printed_size, printed, HasValue}
use Rattle.sp_decimal.proofs.DroppedZeroLemmas.{value-without_zeros, digits-without_zeros, last-without_zeros}
use Rattle.sp_decimal.proofs.FractionLemmas.{fraction_numeral-equal}
use Rattle.sp_decimal.proofs.LastDigitLemmas.{last_digits, length-last_digits, value-last_digits, digits-last_digits}
use Rattle.sp_decimal.proofs.NumberTextLemmas.{decimal-is, decimal-first}
use Rattle.sp_decimal.proofs.PlainTextLemmas.{AreDigits, plain, numeral-plain, has_minus-plain, unsigned-plain, top-plain, bottom-plain}
use Rattle.sp_decimal.proofs.PowerLemmas.{power-positive}
use Rattle.sp_decimal.proofs.PrintedTextLemmas.{rest-filled}
use Rattle.sp_decimal.proofs.RoundingLemmas.{div-le}
use Rattle.sp_decimal.proofs.TrailingZeroLemmas.{length-without_zeros}

-- the digits of n / 10^s, parted at the point
pub record IsParted (n s : ℕ) (w f : List ℕ) : Type 0 where
  pub digits : AreDigits w f
  pub value : (value_of w * 10 ^ length f + value_of f) * 10 ^ s ≡ n * 10 ^ length f
  pub first : get_or w 0 0 ≡ 48 → length w ≡ 1
  pub last : get_or f (length f - 1) 0 ≢ 48

-- q units and v parts, of which A make a unit, and of whose parts B make one
parts : (q v n r A B : ℕ) → n ≡ q * (A * B) + r → r ≡ v * B → (q * A + v) * (A * B) ≡ n * A
parts q v n r A B e f =
    rw (e, f, add-mul (q * A) v (A * B), add-mul (q * (A * B)) (v * B) A, mul_right_comm q A (A * B), mul_assoc v B A, mul_comm B A) refl

value-parted : (n s : ℕ) (w f : List ℕ) → length f ≤ s → value_of w ≡ n / 10 ^ s → n % 10 ^ s ≡ value_of f * 10 ^ (s - length f)
    → (value_of w * 10 ^ length f + value_of f) * 10 ^ s ≡ n * 10 ^ length f
value-parted n s w f short whole rest =
    let all : s ≡ length f + (s - length f) = omega arith in
    let split : 10 ^ s ≡ 10 ^ length f * 10 ^ (s - length f) = ap (λ k. 10 ^ k) all ∙ pow-add 10 (length f) (s - length f) in
    let sum : n ≡ n / 10 ^ s * (10 ^ length f * 10 ^ (s - length f)) + n % 10 ^ s = rw (← split) (sym (div-add-mod' n (10 ^ s))) in
    rw whole (subst (λ (t : ℕ). (n / 10 ^ s * 10 ^ length f + value_of f) * t ≡ n * 10 ^ length f) (sym split)
    (parts (n / 10 ^ s) (value_of f) n (n % 10 ^ s) (10 ^ length f) (10 ^ (s - length f)) sum rest))

quotient-small : (n s : ℕ) → n < 10 ^ 64 → n / 10 ^ s < 10 ^ 64
quotient-small n s small = omega (arith, div-le n (10 ^ s) (power-positive s))

behind-value : (n s : ℕ) → n % 10 ^ s ≡ value_of (without_zeros (last_digits s n)) * 10 ^ (s - length (without_zeros (last_digits s n)))
behind-value n s =
    sym (value-last_digits s n) ∙ value-without_zeros (last_digits s n) ∙ ap (λ k. value_of (without_zeros (last_digits s n)) * 10 ^ (k - length (without_zeros (last_digits s n)))) (length-last_digits s n)

parted_last : (n s : ℕ) → n < 10 ^ 64 → IsParted n s (decimal (n / 10 ^ s)) (without_zeros (last_digits s n))
parted_last n s small =
    let whole = decimal-is (n / 10 ^ s) (quotient-small n s small) in
    record {
      digits = record { some = whole.some; whole = whole.all; behind = digits-without_zeros (last_digits s n) (digits-last_digits s n) };
      value = value-parted n s (decimal (n / 10 ^ s)) (without_zeros (last_digits s n)) (omega (arith, length-without_zeros (last_digits s n), length-last_digits s n)) whole.value (behind-value n s);
      first = decimal-first (n / 10 ^ s) (quotient-small n s small);
      last = last-without_zeros (last_digits s n);
    }

-- without places nothing stands behind the point
behind-none : (n : ℕ) → without_zeros (filled 0 (n % 10 ^ 0)) ≡ []
unfolding filled
behind-none n =
    let none : n % 1 ≡ 0 = omega arith in
    rw (none, decimal_digit 0 (omega arith)) refl

pub parted : (n s : ℕ) → n < 10 ^ 64 → IsParted n s (decimal (n / 10 ^ s)) (without_zeros (filled s (n % 10 ^ s)))
parted n zero small = rw (behind-none n) (parted_last n 0 small)
parted n (suc s) small = rw (← rest-filled s n small) (parted_last n (suc s) small)

-- the value of what is read
reads_parted : (negative : Bool) (n s : ℕ) (w f : List ℕ) → IsParted n s w f → numeral (sign_text negative ++ plain w f) ≡ fraction_numeral negative n (10 ^ s)
reads_parted negative n s w f p =
    numeral-plain negative w f p.digits
    ∙ fraction_numeral-equal negative (value_of w * 10 ^ length f + value_of f) (10 ^ length f) n (10 ^ s) (power-positive (length f)) (power-positive s) p.value

-- the printed text is read as the number that was printed
pub printed-reads : (z : ℤ) (s : ℕ) → unsigned_abs z < 10 ^ 64 → numeral (printed z s) ≡ fraction_numeral (is_negative z) (unsigned_abs z) (10 ^ s)
unfolding printed printed_size
printed-reads z s small = reads_parted (is_negative z) (unsigned_abs z) s _ _ (parted (unsigned_abs z) s small)

value_parted : (negative : Bool) (n s : ℕ) (w f : List ℕ) → IsParted n s w f
    → top (unsigned (sign_text negative ++ plain w f)) * 10 ^ s ≡ n * bottom (unsigned (sign_text negative ++ plain w f))
value_parted negative n s w f p =
    rw (unsigned-plain negative w f p.digits, top-plain w f p.digits, bottom-plain w f p.digits) p.value

-- by the grammar the printed text is the number that was printed
pub printed-value : (z : ℤ) (s : ℕ) → unsigned_abs z < 10 ^ 64 → HasValue (printed z s) z s
unfolding printed printed_size
printed-value z s small =
    let p = parted (unsigned_abs z) s small in
    record { sign = has_minus-plain (is_negative z) _ _ p.digits; value = value_parted (is_negative z) (unsigned_abs z) s _ _ p }
