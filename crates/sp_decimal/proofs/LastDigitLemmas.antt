-- A number's digits, cut before its last ones.
use Rattle.std.proofs.Common.{◌≡◌, ℕ, zero, suc, ◌+◌, ◌-◌, ◌*◌, ◌/◌, ◌%◌, ◌^◌, ◌<◌, ◌≤◌, true, List, [], ◌∷◌, ◌++◌, length, replicate, inl, inr, refl, sym, ap, ◌∙◌, arith, append_assoc, length-append}
use Rattle.std.specs.List.{list_all}
use Rattle.std.specs.Char.{is_ascii_digit}
use Rattle.std.specs.Fmt.{decimal}
use Rattle.std.proofs.lemmas.Fmt.{decimal_digit, decimal_step_wide}
use Rattle.std.proofs.lemmas.List.{append-nil, replicate_more}
use Rattle.std.proofs.lemmas.Nat.{div-add-mod'}
use Rattle.std.proofs.lemmas.Bool.{cases_lt}
use Rattle.std.proofs.Math.Nat.{div-div-eq-div-mul, div-one, pow-succ', mul_left_comm}
use Rattle.sp_decimal.specs.Grammar.{value_of}
use Rattle.sp_decimal.specs.Printing.{filled}
use Rattle.sp_decimal.proofs.NumberTextLemmas.{value-push, digits-push}
use Rattle.sp_decimal.proofs.PowerLemmas.{power-positive}

-- the last s digits of n, with zeros in front if it has fewer
abbrev pub last_digits : ℕ → ℕ → List ℕ
last_digits zero n = []
last_digits (suc s) n = last_digits s (n / 10) ++ (48 + n % 10) ∷ []

pub length-last_digits : (s n : ℕ) → length (last_digits s n) ≡ s
length-last_digits zero n = refl
length-last_digits (suc s) n = omega (arith, length-append (last_digits s (n / 10)) ((48 + n % 10) ∷ []), length-last_digits s (n / 10))

-- the quotient by a power of ten, digit by digit
div-power-suc : (n s : ℕ) → n / 10 ^ suc s ≡ n / 10 / 10 ^ s
div-power-suc n s = rw (pow-succ' 10 s) (sym (div-div-eq-div-mul n 10 (10 ^ s)))

-- the rest of that division
mod-power-suc : (n s : ℕ) → n % 10 ^ suc s ≡ 10 * (n / 10 % 10 ^ s) + n % 10
mod-power-suc n s =
    let t = 10 ^ s in
    let q = n / 10 / t in
    let whole : q * (10 * t) + n % (10 * t) ≡ n = rw (← pow-succ' 10 s, ← div-power-suc n s) (div-add-mod' n (10 ^ suc s)) in
    let part = div-add-mod' (n / 10) t in
    let turned : q * (10 * t) ≡ 10 * (q * t) = mul_left_comm q 10 t in
    rw (pow-succ' 10 s) (omega arith)

-- whether a number has more than s digits
power-suc_le : (n s : ℕ) → 10 ^ suc s ≤ n → 10 ^ s ≤ n / 10
power-suc_le n s h = let more = rw (pow-succ' 10 s) at h in omega arith

-- at most 64 digits are what `decimal` writes
pub decimal-cut : (s n : ℕ) → n < 10 ^ 64 → 10 ^ s ≤ n → decimal n ≡ decimal (n / 10 ^ s) ++ last_digits s n
decimal-cut zero n small h = rw (div-one n, append-nil) refl
decimal-cut (suc s) n small h =
    let more = power-suc_le n s h in
    let some = power-positive s in
    rw (decimal_step_wide n (omega arith) small, decimal-cut s (n / 10) (omega arith) more, div-power-suc n s, append_assoc) refl

-- a number of at most s digits, with zeros in front of it
last_digits-zero : (s : ℕ) → last_digits s 0 ≡ replicate s 48
last_digits-zero zero = refl
last_digits-zero (suc s) = let next : s + 1 ≡ suc s = omega arith in rw (last_digits-zero s, replicate_more, next) refl

power-suc_lt : (n s : ℕ) → n < 10 ^ suc s → n / 10 < 10 ^ s
power-suc_lt n s h = let less = rw (pow-succ' 10 s) at h in omega arith

length-step : (n : ℕ) → 10 ≤ n → n < 10 ^ 64 → length (decimal n) ≡ length (decimal (n / 10)) + 1
length-step n lo small = ap length (decimal_step_wide n lo small) ∙ length-append _ _

filled-step : (s n : ℕ) → 10 ≤ n → n < 10 ^ 64 → filled (suc s) n ≡ filled s (n / 10) ++ (48 + n % 10) ∷ []
unfolding filled
filled-step s n lo small =
    let longer = length-step n lo small in
    let same : suc s - length (decimal n) ≡ s - length (decimal (n / 10)) = omega arith in
    rw (same, decimal_step_wide n lo small, append_assoc) refl

filled-digit : (s n : ℕ) → n < 10 → filled (suc s) n ≡ replicate s 48 ++ (48 + n) ∷ []
unfolding filled
filled-digit s n h = let left : suc s - 1 ≡ s = omega arith in rw (decimal_digit n h) (ap (λ k. replicate k 48 ++ (48 + n) ∷ []) left)

pub last_digits-filled : (s n : ℕ) → n < 10 ^ suc s → n < 10 ^ 64 → last_digits (suc s) n ≡ filled (suc s) n
last_digits-filled zero n h small =
    let one : n < 10 = omega arith in
    let rest : n % 10 ≡ n = omega arith in
    rw (filled-digit 0 n one, rest) refl
last_digits-filled (suc s) n h small = elim (cases_lt n 10) [
  | inl less ↦
      let none : n / 10 ≡ 0 = omega arith in
      let rest : n % 10 ≡ n = omega arith in
      rw (none, rest, filled-digit (suc s) n less, last_digits-zero (suc s)) refl
  | inr more ↦ rw (filled-step (suc s) n more small, last_digits-filled s (n / 10) (power-suc_lt n (suc s) h) (omega arith)) refl
]

-- the last digits are those of the rest
pub last_digits-mod : (s n : ℕ) → last_digits s (n % 10 ^ s) ≡ last_digits s n
last_digits-mod zero n = refl
last_digits-mod (suc s) n =
    let rest = mod-power-suc n s in
    let front : n % 10 ^ suc s / 10 ≡ n / 10 % 10 ^ s = omega arith in
    let last : n % 10 ^ suc s % 10 ≡ n % 10 = omega arith in
    rw (front, last, last_digits-mod s (n / 10)) refl

-- what the last digits stand for
pub value-last_digits : (s n : ℕ) → value_of (last_digits s n) ≡ n % 10 ^ s
value-last_digits zero n = omega arith
value-last_digits (suc s) n = omega (arith, value-last_digits s (n / 10), mod-power-suc n s, value-push (last_digits s (n / 10)) (n % 10))

pub digits-last_digits : (s n : ℕ) → list_all is_ascii_digit (last_digits s n) ≡ true
digits-last_digits zero n = refl
digits-last_digits (suc s) n = digits-push (last_digits s (n / 10)) (n % 10) (omega arith) (digits-last_digits s (n / 10))

pub length-decimal_some : (n : ℕ) → n < 10 ^ 64 → 0 < length (decimal n)
length-decimal_some n small = elim (cases_lt n 10) [ inl less ↦ rw (decimal_digit n less) (omega arith) | inr more ↦ rw (length-step n more small) (omega arith) ]
