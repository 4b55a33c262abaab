-- The digits that a text begins with.
use Rattle.std.proofs.Common.{◌≡◌, ℕ, suc, ◌<◌, ◌≤◌, Bool, true, false, not, cond, eqb, leb, ◌&&◌, List, [], ◌∷◌, length, get_or, take, drop, refl, sym, ap, arith}
use Rattle.std.proofs.lemmas.List.{take-append-drop}
use Rattle.std.proofs.lemmas.List.Sums.{position_or_len_is}
use Rattle.std.proofs.lemmas.Bool.Decides.{nat_tests}
use Rattle.std.specs.List.{list_all, position_or_len}
use Rattle.std.specs.Char.{is_ascii_digit}
use Rattle.sp_decimal.specs.Grammar.{some_digits}
use Rattle.sp_decimal.specs.InnerParts.{starts_with_digit, IsDigitRun}

-- both sides of `&&` hold where it does
pub both : (a b : Bool) → (a && b) ≡ true → (a ≡ true) × (b ≡ true)
both true b e = (refl, e)
both false b e = absurd (cc)

abbrev run_length : List ℕ → ℕ
run_length xs = position_or_len (λ b. not (is_ascii_digit b)) xs

run-cons : (x : ℕ) (xs : List ℕ) (digit : Bool) → is_ascii_digit x ≡ digit → run_length (x ∷ xs) ≡ cond digit (suc (run_length xs)) 0
run-cons x xs true e = rw e (omega arith)
run-cons x xs false e = rw e refl

run-le-here : (x : ℕ) (xs : List ℕ) (digit : Bool) → is_ascii_digit x ≡ digit → run_length xs ≤ length xs → run_length (x ∷ xs) ≤ suc (length xs)
run-le-here x xs true e h = rw (run-cons x xs true e) (omega arith)
run-le-here x xs false e h = rw (run-cons x xs false e) (omega arith)

pub run_length-le : (xs : List ℕ) → run_length xs ≤ length xs
run_length-le [] = omega arith
run_length-le (x ∷ xs) = run-le-here x xs (is_ascii_digit x) refl (run_length-le xs)

run-all-here : (x : ℕ) (xs : List ℕ) (digit : Bool) → is_ascii_digit x ≡ digit → list_all is_ascii_digit (take (run_length xs) xs) ≡ true
    → list_all is_ascii_digit (take (run_length (x ∷ xs)) (x ∷ xs)) ≡ true
run-all-here x xs true e h = rw (run-cons x xs true e, e) h
run-all-here x xs false e h = rw (run-cons x xs false e) refl

run-all : (xs : List ℕ) → list_all is_ascii_digit (take (run_length xs) xs) ≡ true
run-all [] = refl
run-all (x ∷ xs) = run-all-here x xs (is_ascii_digit x) refl (run-all xs)

run-ends-here : (x : ℕ) (xs : List ℕ) (digit : Bool) → is_ascii_digit x ≡ digit → starts_with_digit (drop (run_length xs) xs) ≡ false
    → starts_with_digit (drop (run_length (x ∷ xs)) (x ∷ xs)) ≡ false
run-ends-here x xs true e h = rw (run-cons x xs true e) h
run-ends-here x xs false e h = rw (run-cons x xs false e) e

run-ends : (xs : List ℕ) → starts_with_digit (drop (run_length xs) xs) ≡ false
run-ends [] = refl
run-ends (x ∷ xs) = run-ends-here x xs (is_ascii_digit x) refl (run-ends xs)

-- a text is all digits where its digits are as many as its bytes
all-here : (x : ℕ) (xs : List ℕ) (digit : Bool) → is_ascii_digit x ≡ digit → eqb (run_length xs) (length xs) ≡ list_all is_ascii_digit xs
    → eqb (run_length (x ∷ xs)) (suc (length xs)) ≡ (digit && list_all is_ascii_digit xs)
all-here x xs true e h = rw (run-cons x xs true e, ← h) (grind (arith, nat_tests))
all-here x xs false e h = rw (run-cons x xs false e) (grind (arith, nat_tests))

all-by_length : (xs : List ℕ) → eqb (run_length xs) (length xs) ≡ list_all is_ascii_digit xs
all-by_length [] = refl
all-by_length (x ∷ xs) = all-here x xs (is_ascii_digit x) refl (all-by_length xs)

pub some_digits-by_length : (xs : List ℕ) (n : ℕ) → 1 ≤ length xs → n ≡ run_length xs → eqb n (length xs) ≡ some_digits xs
some_digits-by_length xs n h e =
    let some : leb 1 (length xs) ≡ true = grind (arith, nat_tests) in
    rw (e, some) (all-by_length xs)

-- a run ends where a byte is no digit, or at the end
pub run-stops : (xs : List ℕ) (n : ℕ) → n < length xs → ((k : ℕ) → k < n → is_ascii_digit (get_or xs k 0) ≡ true) → is_ascii_digit (get_or xs n 0) ≡ false → n ≡ run_length xs
run-stops xs n l h e = sym (position_or_len_is (λ b. not (is_ascii_digit b)) xs n 0 (omega arith) (λ k m. ap not (h k m)) (λ _. ap not e))

pub run-whole : (xs : List ℕ) → ((k : ℕ) → k < length xs → is_ascii_digit (get_or xs k 0) ≡ true) → length xs ≡ run_length xs
run-whole xs h = sym (position_or_len_is (λ b. not (is_ascii_digit b)) xs (length xs) 0 (omega arith) (λ k m. ap not (h k m)) (λ l. absurd (omega arith)))

pub run-is : (xs : List ℕ) (n : ℕ) (digits rest : List ℕ) → n ≡ run_length xs → digits ≡ take n xs → rest ≡ drop n xs → IsDigitRun xs digits rest
run-is xs n digits rest e f g = rw (f, g, e) (record { joined = sym (take-append-drop (run_length xs) xs); all = run-all xs; ends = run-ends xs })

pub ruleset runs = (run_length-le, run-is, some_digits-by_length)
