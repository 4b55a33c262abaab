-- The printed text, from the digits of the number.
use Rattle.std.proofs.Common.{◌≡◌, ℕ, zero, suc, ◌+◌, ◌-◌, ◌/◌, ◌%◌, ◌^◌, ◌<◌, ◌≤◌, List, [], ◌∷◌, ◌++◌, length, take, drop, replicate, ℤ, unsigned_abs, inl, inr, refl, sym, ap, ◌∙◌, arith, append_assoc, length-append}
use Rattle.std.specs.Int.{is_negative}
use Rattle.std.specs.Fmt.{decimal, sign_text}
use Rattle.std.proofs.lemmas.Fmt.{decimal_digit, length-decimal-le_wide}
use Rattle.std.proofs.lemmas.List.{append-nil, take_at, drop_at, take_all, drop_all}
use Rattle.std.proofs.lemmas.Bool.{cases_lt}
use Rattle.std.proofs.lemmas.Nat.{div-add-mod', mod_below, div_below}
use Rattle.std.proofs.Math.Nat.{div-one}
use Rattle.sp_decimal.specs.Printing.{filled, without_zeros, with_point, printed_size, printed}
use Rattle.sp_decimal.proofs.LastDigitLemmas.{last_digits, length-last_digits, decimal-cut, last_digits-filled, last_digits-mod, length-decimal_some}
use Rattle.sp_decimal.proofs.PowerLemmas.{power-positive}
use Rattle.sp_decimal.proofs.RoundingLemmas.{div-le}
use Rattle.sp_decimal.proofs.TrailingZeroLemmas.{behind_whole, behind_whole-plain, behind_whole-zeros}

length-cut : (s n : ℕ) → n < 10 ^ 64 → 10 ^ s ≤ n → length (decimal n) ≡ length (decimal (n / 10 ^ s)) + length (last_digits s n)
length-cut s n small more = ap length (decimal-cut s n small more) ∙ length-append (decimal (n / 10 ^ s)) (last_digits s n)

-- a number with more than s digits is 10^s or more
long_number : (s n : ℕ) → n < 10 ^ 64 → suc s < length (decimal n) → 10 ^ suc s ≤ n
long_number s n small long = elim (cases_lt n (10 ^ suc s)) [
  | inl less ↦ absurd (omega (arith, length-decimal-le_wide (suc s) n (omega arith) less small))
  | inr more ↦ more
]

-- a number with at most s digits is below 10^s
short_number : (s n : ℕ) → n < 10 ^ 64 → length (decimal n) ≤ s → n < 10 ^ s
short_number s n small short = elim (cases_lt n (10 ^ s)) [
  | inl less ↦ less
  | inr more ↦
      let whole = div-le n (10 ^ s) (power-positive s) in
      let some = length-decimal_some (n / 10 ^ s) (omega arith) in
      absurd (omega (arith, length-cut s n small more, length-last_digits s n))
]

pub rest-filled : (s n : ℕ) → n < 10 ^ 64 → last_digits (suc s) n ≡ filled (suc s) (n % 10 ^ suc s)
rest-filled s n small =
    let all = div-add-mod' n (10 ^ suc s) in
    sym (last_digits-mod (suc s) n) ∙ last_digits-filled s (n % 10 ^ suc s) (mod_below n (10 ^ suc s) (power-positive (suc s))) (omega arith)

cut_size : (s n : ℕ) → n < 10 ^ 64 → suc s < length (decimal n) → take (length (decimal n) - suc s) (decimal n) ++ with_point (without_zeros (drop (length (decimal n) - suc s) (decimal n))) ≡ printed_size n (suc s)
unfolding printed_size
cut_size s n small long =
    let more = long_number s n small long in
    let cut = decimal-cut (suc s) n small more in
    let at : length (decimal (n / 10 ^ suc s)) ≡ length (decimal n) - suc s = omega (arith, length-cut (suc s) n small more, length-last_digits (suc s) n) in
    let front : take (length (decimal n) - suc s) (decimal n) ≡ decimal (n / 10 ^ suc s) = ap (take (length (decimal n) - suc s)) cut ∙ take_at _ _ _ at in
    let back : drop (length (decimal n) - suc s) (decimal n) ≡ last_digits (suc s) n = ap (drop (length (decimal n) - suc s)) cut ∙ drop_at _ _ _ at in
    rw (front, back, rest-filled s n small) refl

whole_size : (n : ℕ) → decimal n ≡ printed_size n 0
unfolding printed_size filled
whole_size n =
    let none : n % 1 ≡ 0 = omega arith in
    rw (div-one n, none, decimal_digit 0 (omega arith), append-nil) refl

-- the text of a number with more than s digits: cut before the last s
pub long_size : (s n : ℕ) → n < 10 ^ 64 → s < length (decimal n) → take (length (decimal n) - s) (decimal n) ++ behind_whole [] (without_zeros (drop (length (decimal n) - s) (decimal n))) ≡ printed_size n s
long_size zero n small long =
    let len : length (decimal n) - 0 ≡ length (decimal n) = omega arith in
    rw (len, take_all (length (decimal n)) (decimal n) (omega arith), drop_all (length (decimal n)) (decimal n) (omega arith), append-nil) (whole_size n)
long_size (suc s) n small long = rw (behind_whole-plain (without_zeros (drop (length (decimal n) - suc s) (decimal n)))) (cut_size s n small long)

-- the text of a number with at most s digits: a 0, and zeros in front of the digits
pub short_size : (s n : ℕ) → n < 10 ^ 64 → length (decimal n) ≤ s → 48 ∷ [] ++ behind_whole (replicate (s - length (decimal n)) 48) (without_zeros (decimal n)) ≡ printed_size n s
unfolding printed_size filled
short_size s n small short =
    let less = short_number s n small short in
    let whole : n / 10 ^ s ≡ 0 = omega (arith, div_below n (10 ^ s) 1 (power-positive s) (omega arith)) in
    let rest : n % 10 ^ s ≡ n = let all = div-add-mod' n (10 ^ s) in omega (arith, rw whole at all) in
    rw (whole, rest, decimal_digit 0 (omega arith), behind_whole-zeros) refl

-- the text that is joined from a number with more than s digits
pub long_text : (sign digits whole behind rest text : List ℕ) (places n s : ℕ) → n < 10 ^ 64 → digits ≡ decimal n → places ≡ s → places < length digits
    → whole ≡ take (length digits - places) digits → behind ≡ drop (length digits - places) digits → rest ≡ without_zeros behind
    → text ≡ sign ++ whole ++ behind_whole [] rest → text ≡ sign ++ printed_size n s
long_text sign digits whole behind rest text places n s small d p long w b r t =
    let more = rw (d, p) at long in
    rw (t, append_assoc, r, w, b, d, p) (ap (λ size. sign ++ size) (long_size s n small more))

-- the text that is joined from a number with at most s digits
pub short_text : (sign digits zeros rest text : List ℕ) (places n s : ℕ) → n < 10 ^ 64 → digits ≡ decimal n → places ≡ s → length digits ≤ places
    → zeros ≡ replicate (places - length digits) 48 → rest ≡ without_zeros digits → text ≡ sign ++ 48 ∷ [] ++ behind_whole zeros rest → text ≡ sign ++ printed_size n s
short_text sign digits zeros rest text places n s small d p short z r t =
    let less = rw (d, p) at short in
    rw (t, append_assoc, r, z, d, p) (ap (λ size. sign ++ size) (short_size s n small less))

-- the text behind its sign, where the number came another way
pub printed_from : (z same : ℤ) (n s : ℕ) (sign text : List ℕ) → same ≡ z → sign ≡ sign_text (is_negative same) → n ≡ unsigned_abs same → text ≡ sign ++ printed_size n s → text ≡ printed z s
unfolding printed
printed_from z same n s sign text e g h t = rw (t, g, h, e) refl
