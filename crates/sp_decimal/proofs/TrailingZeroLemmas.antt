-- Digits without the zeros at their end.
use Rattle.std.proofs.Common.{◌≡◌, ◌≢◌, ℕ, zero, suc, ◌-◌, ◌<◌, ◌≤◌, Bool, true, false, if◌then◌else◌, ◌==◌, List, [], ◌∷◌, ◌++◌, length, get_or, take, drop, replicate, refl, ◌∙◌, arith}
use Rattle.std.specs.List.{list_all}
use Rattle.std.proofs.lemmas.List.Folds.{list_all_at}
use Rattle.std.proofs.lemmas.Bool.Decides.{nat_tests}
use native.Mathlib.Numerals.{unary_clauses}
use Rattle.sp_decimal.specs.Printing.{is_zero, without_zeros, with_point}

not_zero : (d : ℕ) → d ≢ 48 → is_zero d ≡ false
not_zero d h = grind (arith, nat_tests)

-- all of them zeros
pub without_zeros-zeros : (xs : List ℕ) → list_all is_zero xs ≡ true → without_zeros xs ≡ []
without_zeros-zeros [] z = refl
without_zeros-zeros (x ∷ xs) z = rw z refl

-- a digit that isn't 0 keeps what is in front of it
pub without_zeros-cons : (x : ℕ) (xs : List ℕ) → list_all is_zero (x ∷ xs) ≡ false → without_zeros (x ∷ xs) ≡ x ∷ without_zeros xs
without_zeros-cons x xs z = rw z refl

pub without_zeros-take : (xs : List ℕ) (n : ℕ) → n ≤ length xs → (0 < n → get_or xs (n - 1) 0 ≢ 48) → list_all is_zero (drop n xs) ≡ true → without_zeros xs ≡ take n xs
without_zeros-take xs zero h k z = without_zeros-zeros xs z
without_zeros-take [] (suc n) h k z = absurd (omega arith)
without_zeros-take (x ∷ xs) (suc zero) h k z =
    let first : list_all is_zero (x ∷ xs) ≡ false = list_all_at is_zero (x ∷ xs) 0 0 (omega arith) (not_zero x (k (omega arith))) in
    rw (without_zeros-cons x xs first, without_zeros-zeros xs z) refl
without_zeros-take (x ∷ xs) (suc (suc n)) h k z =
    let last : get_or xs n 0 ≢ 48 = simp unary_clauses at k (omega arith) in
    let some : list_all is_zero (x ∷ xs) ≡ false = list_all_at is_zero (x ∷ xs) (suc n) 0 (omega arith) (not_zero (get_or xs n 0) last) in
    rw (without_zeros-cons x xs some, without_zeros-take xs (suc n) (omega arith) (λ _. simp unary_clauses last) z) refl

-- what the code writes behind the whole part
abbrev pub behind_whole : List ℕ → List ℕ → List ℕ
behind_whole zeros rest = if length rest == 0 then [] else 46 ∷ zeros ++ rest

some_length : (k : ℕ) → (suc k == 0) ≡ false
some_length k = grind (arith, nat_tests)

pub behind_whole-plain : (rest : List ℕ) → behind_whole [] rest ≡ with_point rest
behind_whole-plain [] = refl
behind_whole-plain (d ∷ rest) = rw (some_length (length rest)) refl

zeros-replicate : (k : ℕ) (xs : List ℕ) → list_all is_zero (replicate k 48 ++ xs) ≡ list_all is_zero xs
zeros-replicate zero xs = refl
zeros-replicate (suc k) xs = zeros-replicate k xs

-- zeros in front of other digits stay
without_zeros-replicate : (k : ℕ) (xs : List ℕ) → list_all is_zero xs ≡ false → without_zeros (replicate k 48 ++ xs) ≡ replicate k 48 ++ without_zeros xs
without_zeros-replicate zero xs some = refl
without_zeros-replicate (suc k) xs some =
    let more = zeros-replicate (suc k) xs ∙ some in
    rw (without_zeros-cons 48 (replicate k 48 ++ xs) more, without_zeros-replicate k xs some) refl

with_point-replicate : (k x : ℕ) (xs : List ℕ) → with_point (replicate k 48 ++ x ∷ xs) ≡ 46 ∷ replicate k 48 ++ x ∷ xs
with_point-replicate zero x xs = refl
with_point-replicate (suc k) x xs = refl

behind_some : (k : ℕ) (xs : List ℕ) → list_all is_zero xs ≡ false → behind_whole (replicate k 48) (without_zeros xs) ≡ with_point (without_zeros (replicate k 48 ++ xs))
behind_some k [] some = absurd (cc)
behind_some k (x ∷ xs) some = rw (without_zeros-replicate k (x ∷ xs) some, without_zeros-cons x xs some, with_point-replicate k x (without_zeros xs), some_length (length (without_zeros xs))) refl

pub behind_whole-zeros : (k : ℕ) (xs : List ℕ) → behind_whole (replicate k 48) (without_zeros xs) ≡ with_point (without_zeros (replicate k 48 ++ xs))
behind_whole-zeros k xs = go (list_all is_zero xs) refl
  where
    go : (b : Bool) → list_all is_zero xs ≡ b → behind_whole (replicate k 48) (without_zeros xs) ≡ with_point (without_zeros (replicate k 48 ++ xs))
    go true none = rw (without_zeros-zeros xs none, without_zeros-zeros (replicate k 48 ++ xs) (zeros-replicate k xs ∙ none)) refl
    go false some = behind_some k xs some

-- what holds of zeros that are dropped, and goes on to a digit in front of others that aren't all zeros
pub by_without_zeros : (P : List ℕ → List ℕ → Type 0) (zeros : (xs : List ℕ) → list_all is_zero xs ≡ true → P xs [])
    (kept : (x : ℕ) (xs : List ℕ) → list_all is_zero (x ∷ xs) ≡ false → P xs (without_zeros xs) → P (x ∷ xs) (x ∷ without_zeros xs)) → (xs : List ℕ) → P xs (without_zeros xs)
by_without_zeros P zeros kept [] = zeros [] refl
by_without_zeros P zeros kept (x ∷ xs) = go (list_all is_zero (x ∷ xs)) refl (by_without_zeros P zeros kept xs)
  where
    go : (b : Bool) → list_all is_zero (x ∷ xs) ≡ b → P xs (without_zeros xs) → P (x ∷ xs) (without_zeros (x ∷ xs))
    go true none h = rw (without_zeros-zeros (x ∷ xs) none) (zeros (x ∷ xs) none)
    go false some h = rw (without_zeros-cons x xs some) (kept x xs some h)

pub length-without_zeros : (xs : List ℕ) → length (without_zeros xs) ≤ length xs
length-without_zeros xs = by_without_zeros (λ xs ys. length ys ≤ length xs) (λ xs none. omega arith) (λ x xs some h. omega arith) xs
