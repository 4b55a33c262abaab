-- What `decimal` writes, in the words of the grammar.
use Rattle.std.proofs.Common.{◌≡◌, ◌≢◌, ℕ, ◌+◌, ◌-◌, ◌*◌, ◌/◌, ◌%◌, ◌^◌, ◌<◌, ◌≤◌, true, List, [], ◌∷◌, ◌++◌, length, get_or, inl, inr, refl, ap, ◌∙◌, arith}
use Rattle.std.specs.List.{list_all}
use Rattle.std.specs.Char.{is_ascii_digit}
use Rattle.std.specs.Fmt.{decimal}
use Rattle.std.proofs.lemmas.Fmt.{decimal_digit, decimal_by_steps_wide}
use Rattle.std.proofs.lemmas.Bool.{cases_lt}
use Rattle.std.proofs.lemmas.Bool.Decides.{nat_tests}
use Rattle.std.proofs.lemmas.List.{get_or_append_left, length_push}
use Rattle.std.proofs.lemmas.List.Folds.{list_all-append}
use Rattle.std.proofs.lemmas.List.Sums.{fold_push}
use Rattle.sp_decimal.specs.Grammar.{value_of}

-- the digits of the number, the first of them 0 only where the number is
pub record IsNumberText (n : ℕ) (digits : List ℕ) : Type 0 where
  pub value : value_of digits ≡ n
  pub all : list_all is_ascii_digit digits ≡ true
  pub some : 0 < length digits
  pub first : 0 < n → get_or digits 0 0 ≢ 48

pub digit_of : (d : ℕ) → d < 10 → is_ascii_digit (48 + d) ≡ true
digit_of d h = grind (arith, nat_tests)

pub value-push : (digits : List ℕ) (d : ℕ) → value_of (digits ++ (48 + d) ∷ []) ≡ 10 * value_of digits + d
value-push digits d =
    let step : value_of (digits ++ (48 + d) ∷ []) ≡ 10 * value_of digits + (48 + d - 48) = fold_push (λ value digit. 10 * value + (digit - 48)) 0 digits (48 + d) in
    omega arith

pub digits-push : (digits : List ℕ) (d : ℕ) → d < 10 → list_all is_ascii_digit digits ≡ true → list_all is_ascii_digit (digits ++ (48 + d) ∷ []) ≡ true
digits-push digits d h all = rw (list_all-append is_ascii_digit digits ((48 + d) ∷ []), all, digit_of d h) refl

one_digit : (n : ℕ) → n < 10 → IsNumberText n ((48 + n) ∷ [])
one_digit n h = record { value = value-push [] n ∙ omega arith; all = digits-push [] n h refl; some = omega arith; first = λ p e. absurd (omega arith) }

more_digits : (n : ℕ) (digits : List ℕ) → 10 ≤ n → IsNumberText (n / 10) digits → IsNumberText n (digits ++ (48 + n % 10) ∷ [])
more_digits n digits lo h = record {
  value = value-push digits (n % 10) ∙ rw h.value (omega arith);
  all = digits-push digits (n % 10) (omega arith) h.all;
  some = omega (arith, length_push digits (48 + n % 10));
  first = λ p. rw (get_or_append_left digits ((48 + n % 10) ∷ []) 0 0 h.some) (h.first (omega arith));
}

pub decimal-is : (n : ℕ) → n < 10 ^ 64 → IsNumberText n (decimal n)
decimal-is n small = decimal_by_steps_wide IsNumberText one_digit more_digits n small

-- a 0 in front stands alone
pub decimal-first : (n : ℕ) → n < 10 ^ 64 → get_or (decimal n) 0 0 ≡ 48 → length (decimal n) ≡ 1
decimal-first n small e = elim (cases_lt n 1) [
  | inl less ↦ ap length (decimal_digit n (omega arith))
  | inr more ↦ absurd ((decimal-is n small).first more e)
]
