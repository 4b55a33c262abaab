-- What dropping the zeros at the end of digits changes.
use Rattle.std.proofs.Common.{◌≡◌, ◌≢◌, ℕ, suc, ◌+◌, ◌-◌, ◌*◌, ◌^◌, true, false, List, [], ◌∷◌, length, get_or, refl, arith}
use Rattle.std.specs.List.{list_all, fold}
use Rattle.std.specs.Char.{is_ascii_digit}
use Rattle.std.proofs.lemmas.Bool.Decides.{nat_tests}
use Rattle.std.proofs.Math.Nat.{pow-succ', mul_assoc}
use Rattle.sp_decimal.specs.Grammar.{value_of}
use Rattle.sp_decimal.specs.Printing.{is_zero, without_zeros}
use Rattle.sp_decimal.proofs.PointPlaceLemmas.{and_left, and_right}
use Rattle.sp_decimal.proofs.TrailingZeroLemmas.{by_without_zeros}

-- the number that digits stand for behind a number that was read already
abbrev pub value_behind : ℕ → List ℕ → ℕ
value_behind a digits = fold (λ value digit. 10 * value + (digit - 48)) a digits

zero_digit : (d : ℕ) → is_zero d ≡ true → d ≡ 48
zero_digit d h = grind (arith, nat_tests)

-- zeros behind a number multiply it
value-zeros : (a : ℕ) (xs : List ℕ) → list_all is_zero xs ≡ true → value_behind a xs ≡ a * 10 ^ length xs
value-zeros a [] h = omega arith
value-zeros a (x ∷ xs) h =
    let z = zero_digit x (and_left (is_zero x) (list_all is_zero xs) h) in
    let next : 10 * a + (x - 48) ≡ a * 10 = omega arith in
    rw (next, value-zeros (a * 10) xs (and_right (is_zero x) (list_all is_zero xs) h), pow-succ' 10 (length xs)) (mul_assoc a 10 (10 ^ length xs))

value-dropped : (a : ℕ) (xs : List ℕ) → list_all is_zero xs ≡ true → value_behind a xs ≡ a * 10 ^ (length xs - 0)
value-dropped a xs none = let all : length xs - 0 ≡ length xs = omega arith in rw all (value-zeros a xs none)

value_behind-kept : (x a : ℕ) (xs ys : List ℕ) → ((b : ℕ) → value_behind b xs ≡ value_behind b ys * 10 ^ (length xs - length ys)) → value_behind a (x ∷ xs) ≡ value_behind a (x ∷ ys) * 10 ^ (suc (length xs) - suc (length ys))
value_behind-kept x a xs ys h = let same : suc (length xs) - suc (length ys) ≡ length xs - length ys = omega arith in rw same (h (10 * a + (x - 48)))

-- the value is that of the digits that are left, times a ten for each that is dropped
pub value-without_zeros : (xs : List ℕ) → value_of xs ≡ value_of (without_zeros xs) * 10 ^ (length xs - length (without_zeros xs))
value-without_zeros xs =
    by_without_zeros (λ xs ys. (a : ℕ) → value_behind a xs ≡ value_behind a ys * 10 ^ (length xs - length ys)) (λ xs none a. value-dropped a xs none) (λ x xs some h a. value_behind-kept x a xs (without_zeros xs) h) xs 0

digits-kept : (x : ℕ) (xs ys : List ℕ) → (list_all is_ascii_digit xs ≡ true → list_all is_ascii_digit ys ≡ true) → list_all is_ascii_digit (x ∷ xs) ≡ true → list_all is_ascii_digit (x ∷ ys) ≡ true
digits-kept x xs ys h all = rw (and_left (is_ascii_digit x) (list_all is_ascii_digit xs) all, h (and_right (is_ascii_digit x) (list_all is_ascii_digit xs) all)) refl

-- digits stay digits
pub digits-without_zeros : (xs : List ℕ) → list_all is_ascii_digit xs ≡ true → list_all is_ascii_digit (without_zeros xs) ≡ true
digits-without_zeros xs =
    by_without_zeros (λ xs ys. list_all is_ascii_digit xs ≡ true → list_all is_ascii_digit ys ≡ true) (λ xs none all. refl) (λ x xs some h. digits-kept x xs (without_zeros xs) h) xs

-- what is dropped whole is zeros
dropped_whole : (xs : List ℕ) → without_zeros xs ≡ [] → list_all is_zero xs ≡ true
dropped_whole xs = by_without_zeros (λ xs ys. ys ≡ [] → list_all is_zero xs ≡ true) (λ xs none e. none) (λ x xs some h e. absurd (cc)) xs

abbrev pub last_of : List ℕ → ℕ
last_of xs = get_or xs (length xs - 1) 0

pub last_of-cons : (x y : ℕ) (ys : List ℕ) → last_of (x ∷ y ∷ ys) ≡ last_of (y ∷ ys)
last_of-cons x y ys =
    let at : suc (suc (length ys)) - 1 ≡ suc (length ys) = omega arith in
    let before : suc (length ys) - 1 ≡ length ys = omega arith in
    rw (at, before) refl

one_kept : (x : ℕ) (xs : List ℕ) → list_all is_zero (x ∷ xs) ≡ false → list_all is_zero xs ≡ true → x ≢ 48
one_kept x xs some zeros e = let all : list_all is_zero (x ∷ xs) ≡ true = rw (e, zeros) refl in absurd (cc)

last-kept : (x : ℕ) (xs ys : List ℕ) → list_all is_zero (x ∷ xs) ≡ false → (ys ≡ [] → list_all is_zero xs ≡ true) → last_of ys ≢ 48 → last_of (x ∷ ys) ≢ 48
last-kept x xs [] some none h = one_kept x xs some (none refl)
last-kept x xs (y ∷ ys) some none h = rw (last_of-cons x y ys) h

-- the last of the digits that are left isn't 0
pub last-without_zeros : (xs : List ℕ) → last_of (without_zeros xs) ≢ 48
last-without_zeros xs =
    by_without_zeros (λ xs ys. last_of ys ≢ 48) (λ xs none e. absurd (omega arith)) (λ x xs some h. last-kept x xs (without_zeros xs) some (dropped_whole xs) h) xs
