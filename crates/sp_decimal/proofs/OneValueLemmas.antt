-- Digits that stand for one number.
use Rattle.std.proofs.Common.{◌≡◌, ◌≢◌, ℕ, suc, ◌+◌, ◌-◌, ◌*◌, ◌%◌, ◌^◌, ◌<◌, ◌≤◌, true, List, [], ◌∷◌, length, get_or, inl, inr, refl, sym, ap, ◌∙◌, arith}
use Rattle.std.specs.List.{list_all}
use Rattle.std.specs.Char.{is_ascii_digit}
use Rattle.std.proofs.lemmas.Bool.{cases_order}
use Rattle.std.proofs.lemmas.Bool.Decides.{nat_tests}
use Rattle.std.proofs.lemmas.Nat.{pow-add, mul-le}
use Rattle.std.proofs.Math.Nat.{pow-succ', mul_assoc, mul_left_comm, mul_right_comm, pow-le-pow_right, eq_of_mul-eq-mul_right}
use Rattle.sp_decimal.specs.Grammar.{value_of}
use Rattle.sp_decimal.proofs.DroppedZeroLemmas.{value_behind, last_of, last_of-cons}
use Rattle.sp_decimal.proofs.PointPlaceLemmas.{and_left, and_right, digit-least}
use Rattle.sp_decimal.proofs.PowerLemmas.{power-positive}

-- the digits are decimal ones
record Digits (xs : List ℕ) : Type 0 where
  all : list_all is_ascii_digit xs ≡ true

digit-most : (d : ℕ) → is_ascii_digit d ≡ true → d ≤ 57
digit-most d h = grind (arith, nat_tests)

front_digit : (x : ℕ) (xs : List ℕ) → Digits (x ∷ xs) → is_ascii_digit x ≡ true
front_digit x xs d = and_left (is_ascii_digit x) (list_all is_ascii_digit xs) d.all

other_digits : (x : ℕ) (xs : List ℕ) → Digits (x ∷ xs) → Digits xs
other_digits x xs d = record { all = and_right (is_ascii_digit x) (list_all is_ascii_digit xs) d.all }

-- a step of the power of ten of the length
ten_times : (a : ℕ) (xs : List ℕ) → a * 10 ^ suc (length xs) ≡ 10 * a * 10 ^ length xs
ten_times a xs = rw (pow-succ' 10 (length xs)) (mul_left_comm a 10 (10 ^ length xs) ∙ sym (mul_assoc 10 a (10 ^ length xs)))

value-le : (a : ℕ) (xs : List ℕ) → a * 10 ^ length xs ≤ value_behind a xs
value-le a [] = omega arith
value-le a (x ∷ xs) =
    let more = mul-le (10 * a) (10 ^ length xs) (10 * a + (x - 48)) (10 ^ length xs) (omega arith) (omega arith) in
    omega (arith, ten_times a xs, value-le (10 * a + (x - 48)) xs)

value-lt : (a : ℕ) (xs : List ℕ) → Digits xs → value_behind a xs < (a + 1) * 10 ^ length xs
value-lt a [] d = omega arith
value-lt a (x ∷ xs) d =
    let most = digit-most x (front_digit x xs d) in
    let less = mul-le (10 * a + (x - 48) + 1) (10 ^ length xs) (10 * (a + 1)) (10 ^ length xs) (omega arith) (omega arith) in
    omega (arith, ten_times (a + 1) xs, value-lt (10 * a + (x - 48)) xs (other_digits x xs d))

pub value_of-lt : (xs : List ℕ) → list_all is_ascii_digit xs ≡ true → value_of xs < 10 ^ length xs
value_of-lt xs all = let h = value-lt 0 xs (record { all = all }) in omega arith

-- as many digits with one value are the same digits
same_digits : (a b : ℕ) (xs ys : List ℕ) → Digits xs → Digits ys → length xs ≡ length ys → value_behind a xs ≡ value_behind b ys → (a ≡ b) × (xs ≡ ys)
same_digits a b [] [] d e l v = (v, refl)
same_digits a b [] (y ∷ ys) d e l v = absurd (omega arith)
same_digits a b (x ∷ xs) [] d e l v = absurd (omega arith)
same_digits a b (x ∷ xs) (y ∷ ys) d e l v =
    let rest = same_digits (10 * a + (x - 48)) (10 * b + (y - 48)) xs ys (other_digits x xs d) (other_digits y ys e) (omega arith) v in
    let x-least = digit-least x (front_digit x xs d) in
    let x-most = digit-most x (front_digit x xs d) in
    let y-least = digit-least y (front_digit y ys e) in
    let y-most = digit-most y (front_digit y ys e) in
    let first : x ≡ y = omega (arith, rest.0) in
    (omega (arith, rest.0), rw (first, rest.1) refl)

-- without a 0 in front, more digits are a greater number
not_longer : (xs ys : List ℕ) → Digits xs → Digits ys → (get_or ys 0 0 ≡ 48 → length ys ≡ 1) → 0 < length xs → value_of xs ≡ value_of ys → length xs < length ys → ⊥
not_longer xs [] d e first some v less = omega arith
not_longer xs (y ∷ ys) d e first some v less =
    let least = digit-least y (front_digit y ys e) in
    let other : y ≢ 48 = λ z. omega (arith, first z) in
    let begin : value_of (y ∷ ys) ≡ value_behind (y - 48) ys = ap (λ n. value_behind n ys) (omega arith) in
    let above = value-le (y - 48) ys in
    let unit = mul-le 1 (10 ^ length ys) (y - 48) (10 ^ length ys) (omega arith) (omega arith) in
    let below = value-lt 0 xs d in
    let power = pow-le-pow_right {n = 10} (omega arith) {i = length xs} {j = length ys} (omega arith) in
    omega (arith, v)

pub same_whole : (xs ys : List ℕ) → list_all is_ascii_digit xs ≡ true → list_all is_ascii_digit ys ≡ true → 0 < length xs → 0 < length ys
    → (get_or xs 0 0 ≡ 48 → length xs ≡ 1) → (get_or ys 0 0 ≡ 48 → length ys ≡ 1) → value_of xs ≡ value_of ys → xs ≡ ys
same_whole xs ys d e some more first other v = elim (cases_order (length xs) (length ys)) [
  | inl same ↦ (same_digits 0 0 xs ys (record { all = d }) (record { all = e }) same v).1
  | inr rest ↦ elim rest [
    | inl less ↦ absurd (not_longer xs ys (record { all = d }) (record { all = e }) other some v less)
    | inr less ↦ absurd (not_longer ys xs (record { all = e }) (record { all = d }) first more (sym v) less)
  ]
]

-- the last digit of the number
value-last : (a : ℕ) (xs : List ℕ) → 0 < length xs → Digits xs → value_behind a xs % 10 + 48 ≡ last_of xs
value-last a [] some d = absurd (omega arith)
value-last a (x ∷ []) some d =
    let least = digit-least x (front_digit x [] d) in
    let most = digit-most x (front_digit x [] d) in
    omega arith
value-last a (x ∷ y ∷ ys) some d = rw (last_of-cons x y ys) (value-last (10 * a + (x - 48)) (y ∷ ys) (omega arith) (other_digits x (y ∷ ys) d))

regroup : (v m k : ℕ) → v * (m * (10 * k)) ≡ 10 * (v * k) * m
regroup v m k =
    ap (λ n. v * n) (mul_left_comm m 10 k) ∙ mul_left_comm v 10 (m * k) ∙ ap (λ n. 10 * n) (sym (mul_assoc v m k) ∙ mul_right_comm v m k)
    ∙ sym (mul_assoc 10 (v * k) m)

-- behind a point, more digits are no number of fewer ones, unless the last is 0
not_finer : (xs ys : List ℕ) → Digits ys → last_of ys ≢ 48 → value_of xs * 10 ^ length ys ≡ value_of ys * 10 ^ length xs → length xs < length ys → ⊥
not_finer xs ys e last v less =
    let k = length ys - length xs - 1 in
    let all : length ys ≡ length xs + suc k = omega arith in
    let power : 10 ^ length ys ≡ 10 ^ length xs * (10 * 10 ^ k) = ap (λ n. 10 ^ n) all ∙ pow-add 10 (length xs) (suc k) ∙ ap (λ n. 10 ^ length xs * n) (pow-succ' 10 k) in
    let turned = regroup (value_of xs) (10 ^ length xs) (10 ^ k) in
    let times : 10 * (value_of xs * 10 ^ k) * 10 ^ length xs ≡ value_of ys * 10 ^ length xs = sym turned ∙ ap (λ n. value_of xs * n) (sym power) ∙ v in
    let tens = eq_of_mul-eq-mul_right (10 ^ length xs) (power-positive (length xs)) (10 * (value_of xs * 10 ^ k)) (value_of ys) times in
    last (sym (value-last 0 ys (omega arith) e) ∙ omega arith)

pub same_behind : (xs ys : List ℕ) → list_all is_ascii_digit xs ≡ true → list_all is_ascii_digit ys ≡ true → last_of xs ≢ 48 → last_of ys ≢ 48
    → value_of xs * 10 ^ length ys ≡ value_of ys * 10 ^ length xs → xs ≡ ys
same_behind xs ys d e last other v = elim (cases_order (length xs) (length ys)) [
  | inl same ↦
      let equal : value_of xs * 10 ^ length ys ≡ value_of ys * 10 ^ length ys = v ∙ ap (λ n. value_of ys * 10 ^ n) same in
      (same_digits 0 0 xs ys (record { all = d }) (record { all = e }) same (eq_of_mul-eq-mul_right (10 ^ length ys) (power-positive (length ys)) (value_of xs) (value_of ys) equal)).1
  | inr rest ↦ elim rest [
    | inl less ↦ absurd (not_finer xs ys (record { all = e }) other v less)
    | inr less ↦ absurd (not_finer ys xs (record { all = d }) last (sym v) less)
  ]
]
