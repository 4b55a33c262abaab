-- The numbers that digits stand for.
use Rattle.std.proofs.Common.{◌≡◌, ◌≢◌, ℕ, zero, suc, ◌+◌, ◌-◌, ◌*◌, ◌%◌, ◌^◌, ◌<◌, ◌≤◌, true, List, [], ◌∷◌, length, get_or, take, drop, fold, refl, sym, ap, ◌∙◌, arith, add-one}
use Rattle.std.proofs.Math.Nat.{pow-suc, mul-le-mul_right, mul-le-mul_left, pow-le-pow_right}
use Rattle.std.proofs.lemmas.Nat.{pow-add}
use Rattle.std.proofs.lemmas.Bool.Decides.{nat_tests}
use Rattle.std.proofs.lemmas.List.{drop_more, length-take-le}
use Rattle.std.proofs.lemmas.List.Sums.{fold_more}
use Rattle.std.specs.List.{list_all}
use Rattle.std.specs.Char.{is_ascii_digit}
use Rattle.sp_decimal.proofs.DigitRunLemmas.{both}
use Rattle.sp_decimal.specs.Grammar.{value_of}
use Rattle.sp_decimal.specs.InnerSignificands.{IsBackTrimmed}

pub digit-range : (b : ℕ) → is_ascii_digit b ≡ true → (48 ≤ b) × (b ≤ 57)
digit-range b h = grind (arith, nat_tests)

pub digits-take : (n : ℕ) (xs : List ℕ) → list_all is_ascii_digit xs ≡ true → list_all is_ascii_digit (take n xs) ≡ true
digits-take zero xs h = refl
digits-take (suc n) [] h = refl
digits-take (suc n) (x ∷ xs) h = let p = both (is_ascii_digit x) (list_all is_ascii_digit xs) h in rw p.0 (digits-take n xs p.1)

pub digits-drop : (n : ℕ) (xs : List ℕ) → list_all is_ascii_digit xs ≡ true → list_all is_ascii_digit (drop n xs) ≡ true
digits-drop zero xs h = h
digits-drop (suc n) [] h = refl
digits-drop (suc n) (x ∷ xs) h = digits-drop n xs ((both (is_ascii_digit x) (list_all is_ascii_digit xs) h).1)

pub digit-at : (n : ℕ) (xs : List ℕ) → n < length xs → list_all is_ascii_digit xs ≡ true → is_ascii_digit (get_or xs n 0) ≡ true
digit-at n [] l h = absurd (omega arith)
digit-at zero (x ∷ xs) l h = (both (is_ascii_digit x) (list_all is_ascii_digit xs) h).0
digit-at (suc n) (x ∷ xs) l h = digit-at n xs (omega arith) ((both (is_ascii_digit x) (list_all is_ascii_digit xs) h).1)

-- one digit more
abbrev pub next_value : ℕ → ℕ → ℕ
next_value value digit = 10 * value + (digit - 48)

-- digits behind a number
pub fold-value : (a : ℕ) (xs : List ℕ) → fold next_value a xs ≡ a * 10 ^ length xs + value_of xs
fold-value a [] = omega arith
fold-value a (x ∷ xs) =
    let n = length xs in
    let left : fold next_value (10 * a + (x - 48)) xs ≡ (10 * a + (x - 48)) * 10 ^ n + value_of xs = fold-value (10 * a + (x - 48)) xs in
    let right : fold next_value (10 * 0 + (x - 48)) xs ≡ (10 * 0 + (x - 48)) * 10 ^ n + value_of xs = fold-value (10 * 0 + (x - 48)) xs in
    let power : 10 ^ suc n ≡ 10 ^ n * 10 = pow-suc 10 n in
    let more : a * 10 ^ suc n ≡ a * (10 ^ n * 10) = ap (λ k. a * k) power in
    omega (arith, left, right, more)

-- digits are below the power of ten of their number
pub fold-lt : (a : ℕ) (xs : List ℕ) → list_all is_ascii_digit xs ≡ true → fold next_value a xs < (a + 1) * 10 ^ length xs
fold-lt a [] h = omega arith
fold-lt a (x ∷ xs) h =
    let n = length xs in
    let p = both (is_ascii_digit x) (list_all is_ascii_digit xs) h in
    let d = digit-range x p.0 in
    let rest : fold next_value (10 * a + (x - 48)) xs < (10 * a + (x - 48) + 1) * 10 ^ n = fold-lt (10 * a + (x - 48)) xs p.1 in
    let power : 10 ^ suc n ≡ 10 ^ n * 10 = pow-suc 10 n in
    let le : (10 * a + (x - 48) + 1) * 10 ^ n ≤ (10 * a + 10) * 10 ^ n = mul-le-mul_right (10 ^ n) (omega arith) in
    let same : (a + 1) * 10 ^ suc n ≡ (10 * a + 10) * 10 ^ n = rw power (omega arith) in
    omega (arith, rest, le, same)

pub value-lt : (xs : List ℕ) → list_all is_ascii_digit xs ≡ true → value_of xs < 10 ^ length xs
value-lt xs h = omega (arith, fold-lt 0 xs h)

-- a step of a loop over the digits
pub fold-step : (a : ℕ) (xs : List ℕ) (i b : ℕ) → i < length xs → b ≡ get_or xs i 0 → next_value (fold next_value a (take i xs)) b ≡ fold next_value a (take (i + 1) xs)
fold-step a xs i b l e = rw e (sym (fold_more next_value a xs i 0 l))

pub value-take_more : (xs : List ℕ) (i : ℕ) → i < length xs → value_of (take (i + 1) xs) ≡ 10 * value_of (take i xs) + (get_or xs i 0 - 48)
value-take_more xs i l = fold_more next_value 0 xs i 0 l

-- the first digit isn't 0
pub first-digit : (x : ℕ) (xs : List ℕ) → is_ascii_digit x ≡ true → x ≢ 48 → 10 ^ length (x ∷ xs) ≤ 10 * value_of (x ∷ xs)
first-digit x xs h ne =
    let n = length xs in
    let d = digit-range x h in
    let power : 10 ^ suc n ≡ 10 ^ n * 10 = pow-suc 10 n in
    let value : value_of (x ∷ xs) ≡ (10 * 0 + (x - 48)) * 10 ^ n + value_of xs = fold-value (10 * 0 + (x - 48)) xs in
    let le : 1 * 10 ^ n ≤ (10 * 0 + (x - 48)) * 10 ^ n = mul-le-mul_right (10 ^ n) (omega arith) in
    omega (arith, power, value, le)

pub first-drop : (xs : List ℕ) (i : ℕ) → i < length xs → list_all is_ascii_digit xs ≡ true → get_or xs i 0 ≢ 48 → 10 ^ length (drop i xs) ≤ 10 * value_of (drop i xs)
first-drop xs i l h ne = rw (drop_more xs i 0 l) (first-digit (get_or xs i 0) (drop (i + 1) xs) (digit-at i xs l h) ne)

-- the last digit isn't 0
pub last-take : (xs : List ℕ) (i : ℕ) → i < length xs → list_all is_ascii_digit xs ≡ true → get_or xs i 0 ≢ 48 → value_of (take (i + 1) xs) % 10 ≢ 0
last-take xs i l h ne z = let d = digit-range (get_or xs i 0) (digit-at i xs l h) in ne (omega (arith, value-take_more xs i l))

-- a last zero
pub zero-take : (xs : List ℕ) (end : ℕ) → 0 < end → end ≤ length xs → get_or xs (end - 1) 0 ≡ 48 → value_of xs ≡ value_of (take end xs) * 10 ^ (length xs - end)
    → value_of xs ≡ value_of (take (end - 1) xs) * 10 ^ (length xs - (end - 1))
zero-take xs end pos le z h =
    let same : end - 1 + 1 ≡ end = omega arith in
    let step : value_of (take end xs) ≡ 10 * value_of (take (end - 1) xs) + (get_or xs (end - 1) 0 - 48) = rw same at (value-take_more xs (end - 1) (omega arith)) in
    let v : value_of (take end xs) ≡ 10 * value_of (take (end - 1) xs) = omega arith in
    let more : length xs - (end - 1) ≡ suc (length xs - end) = omega arith in
    let power : 10 ^ (length xs - (end - 1)) ≡ 10 ^ (length xs - end) * 10 = ap (λ k. 10 ^ k) more ∙ pow-suc 10 (length xs - end) in
    h ∙ ap (λ k. k * 10 ^ (length xs - end)) v ∙ rw power (omega arith)

-- a step stays within the room that is left
pub record HasRoom (a v i n d limit : ℕ) : Type 0 where
  pub room : 10 * v + d + 1 ≤ (a + 1) * 10 ^ (i + 1)
  pub below : 10 * v + d + 1 ≤ limit

pub room-step : (a v i n d limit : ℕ) → i < n → d ≤ 9 → v + 1 ≤ (a + 1) * 10 ^ i → (a + 1) * 10 ^ n ≤ limit → HasRoom a v i n d limit
room-step a v i n d limit l small h all =
    let power : 10 ^ (i + 1) ≡ 10 ^ i * 10 = rw add-one (pow-suc 10 i) in
    let le : (a + 1) * 10 ^ (i + 1) ≤ (a + 1) * 10 ^ n = mul-le-mul_left (a + 1) (pow-le-pow_right {n = 10} (omega arith) (omega arith)) in
    let same : (a + 1) * 10 ^ (i + 1) ≡ (a + 1) * 10 ^ i * 10 = rw power (omega arith) in
    let room : 10 * v + d + 1 ≤ (a + 1) * 10 ^ (i + 1) = omega (arith, same, h) in
    record { room = room; below = omega arith }

pub room-at : (a v i : ℕ) (xs : List ℕ) (limit : ℕ) → i < length xs → list_all is_ascii_digit xs ≡ true → v + 1 ≤ (a + 1) * 10 ^ i → (a + 1) * 10 ^ length xs ≤ limit
    → HasRoom a v i (length xs) (get_or xs i 0 - 48) limit
room-at a v i xs limit l h k all = let d = digit-range (get_or xs i 0) (digit-at i xs l h) in room-step a v i (length xs) (get_or xs i 0 - 48) limit l (omega arith) k all

-- room for both pieces of a number of at most k digits
pub room-head : (h t k : ℕ) → h + t ≤ k → 1 * 10 ^ h ≤ 10 ^ k
room-head h t k le = omega (arith, pow-le-pow_right {n = 10} (omega arith) {i = h} {j = k} (omega arith))

pub room-tail : (v : ℕ) (hs ts : List ℕ) (k : ℕ) → list_all is_ascii_digit hs ≡ true → length hs + length ts ≤ k → v ≡ 0 * 10 ^ length hs + value_of hs → (v + 1) * 10 ^ length ts ≤ 10 ^ k
room-tail v hs ts k all le e =
    let lt = value-lt hs all in
    let m : (v + 1) * 10 ^ length ts ≤ 10 ^ length hs * 10 ^ length ts = mul-le-mul_right (10 ^ length ts) (omega arith) in
    let p : 10 ^ (length hs + length ts) ≡ 10 ^ length hs * 10 ^ length ts = pow-add 10 (length hs) (length ts) in
    omega (arith, m, p, pow-le-pow_right {n = 10} (omega arith) {i = length hs + length ts} {j = k} le)

pub back-trimmed : (xs : List ℕ) (end : ℕ) → list_all is_ascii_digit xs ≡ true → 0 < end → end ≤ length xs → get_or xs (end - 1) 0 ≢ 48 → value_of xs ≡ value_of (take end xs) * 10 ^ (length xs - end)
    → IsBackTrimmed xs (take end xs)
back-trimmed xs end all pos le ne v =
    let same : end - 1 + 1 ≡ end = omega arith in
    let len : length (take end xs) ≡ end = length-take-le end xs le in
    let last : value_of (take (end - 1 + 1) xs) % 10 ≢ 0 = last-take xs (end - 1) (omega arith) all ne in
    let kept : value_of (take end xs) % 10 ≢ 0 = rw same at last in record {
      all = digits-take end xs all;
      value = rw len v;
      last = λ _. kept;
      shorter = omega (arith, len);
    }
