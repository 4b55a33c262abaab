-- Digits and other bytes: where a text is parted.
use Rattle.std.proofs.Common.{◌≡◌, ℕ, suc, ◌+◌, ◌≤◌, Bool, true, false, ◌&&◌, ◌||◌, ◌==◌, List, [], ◌∷◌, ◌++◌, length, drop, refl, arith}
use Rattle.std.specs.List.{list_all, list_any, position_or_len, before_first, after_first}
use Rattle.std.specs.Char.{is_ascii_digit}
use Rattle.std.proofs.lemmas.Bool.Decides.{nat_tests}
use Rattle.std.proofs.lemmas.List.{take_all, drop_all, take_at}
use Rattle.sp_decimal.specs.Grammar.{is_exponent_letter, is_point, is_sign}

or_left : (b c : Bool) → (b || c) ≡ false → b ≡ false
or_left true c h = h
or_left false c h = refl

or_right : (b c : Bool) → (b || c) ≡ false → c ≡ false
or_right true c h = absurd (cc)
or_right false c h = h

pub and_left : (b c : Bool) → (b && c) ≡ true → b ≡ true
and_left true c h = refl
and_left false c h = absurd (cc)

pub and_right : (b c : Bool) → (b && c) ≡ true → c ≡ true
and_right true c h = h
and_right false c h = absurd (cc)

-- a digit is no letter, no point and no sign
pub digit-not_letter : (d : ℕ) → is_ascii_digit d ≡ true → is_exponent_letter d ≡ false
digit-not_letter d h = grind (arith, nat_tests)

pub digit-not_point : (d : ℕ) → is_ascii_digit d ≡ true → is_point d ≡ false
digit-not_point d h = grind (arith, nat_tests)

pub digit-not_sign : (d : ℕ) → is_ascii_digit d ≡ true → is_sign d ≡ false
digit-not_sign d h = grind (arith, nat_tests)

pub digit-not_minus : (d : ℕ) → is_ascii_digit d ≡ true → (d == 45) ≡ false
digit-not_minus d h = grind (arith, nat_tests)

pub digit-least : (d : ℕ) → is_ascii_digit d ≡ true → 48 ≤ d
digit-least d h = grind (arith, nat_tests)

-- what no digit is isn't among digits
pub none_in_digits : (p : ℕ → Bool) → ((d : ℕ) → is_ascii_digit d ≡ true → p d ≡ false) → (ds : List ℕ) → list_all is_ascii_digit ds ≡ true → list_any p ds ≡ false
none_in_digits p other [] h = refl
none_in_digits p other (d ∷ ds) h =
    rw (other d (and_left (is_ascii_digit d) (list_all is_ascii_digit ds) h), none_in_digits p other ds (and_right (is_ascii_digit d) (list_all is_ascii_digit ds) h)) refl

-- where nothing passes
position-none : (p : ℕ → Bool) (xs : List ℕ) → list_any p xs ≡ false → position_or_len p xs ≡ length xs
position-none p [] h = refl
position-none p (x ∷ xs) h =
    rw (or_left (p x) (list_any p xs) h, position-none p xs (or_right (p x) (list_any p xs) h)) (omega arith)

pub before_first-none : (p : ℕ → Bool) (xs : List ℕ) → list_any p xs ≡ false → before_first p xs ≡ xs
before_first-none p xs h = rw (position-none p xs h) (take_all (length xs) xs (omega arith))

pub after_first-none : (p : ℕ → Bool) (xs : List ℕ) → list_any p xs ≡ false → after_first p xs ≡ []
after_first-none p xs h = rw (position-none p xs h) (drop_all (length xs + 1) xs (omega arith))

-- where the first that passes stands behind xs
position-at : (p : ℕ → Bool) (xs : List ℕ) (y : ℕ) (ys : List ℕ) → list_any p xs ≡ false → p y ≡ true → position_or_len p (xs ++ y ∷ ys) ≡ length xs
position-at p [] y ys h e = rw e refl
position-at p (x ∷ xs) y ys h e =
    rw (or_left (p x) (list_any p xs) h, position-at p xs y ys (or_right (p x) (list_any p xs) h) e) (omega arith)

pub before_first-at : (p : ℕ → Bool) (xs : List ℕ) (y : ℕ) (ys : List ℕ) → list_any p xs ≡ false → p y ≡ true → before_first p (xs ++ y ∷ ys) ≡ xs
before_first-at p xs y ys h e = rw (position-at p xs y ys h e) (take_at xs (y ∷ ys) (length xs) refl)

drop-behind : (xs : List ℕ) (y : ℕ) (ys : List ℕ) → drop (length xs + 1) (xs ++ y ∷ ys) ≡ ys
drop-behind [] y ys = refl
drop-behind (x ∷ xs) y ys = let next : suc (length xs) + 1 ≡ suc (length xs + 1) = omega arith in rw next (drop-behind xs y ys)

pub after_first-at : (p : ℕ → Bool) (xs : List ℕ) (y : ℕ) (ys : List ℕ) → list_any p xs ≡ false → p y ≡ true → after_first p (xs ++ y ∷ ys) ≡ ys
after_first-at p xs y ys h e = rw (position-at p xs y ys h e) (drop-behind xs y ys)
