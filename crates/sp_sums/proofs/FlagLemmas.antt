-- How many truths are true, and which is the first.
use Rattle.std.proofs.Common.{◌≡◌, ℕ, zero, suc, ◌+◌, ◌<◌, ◌≤◌, Bool, true, false, cond, List, [], ◌∷◌, ◌++◌, length, map, set, refl, sym, ap, ◌∙◌, arith, not-suc-le-zero, le_of_suc-le-suc}
use Rattle.std.specs.List.{count_by}
use Rattle.std.proofs.lemmas.List.Sums.{sum_by-cons}
use Rattle.sp_sums.specs.Flags.{true_count, flag_at}

pub count-cons : (b : Bool) (bits : List Bool) → true_count (b ∷ bits) ≡ cond b 1 0 + true_count bits
count-cons b bits = sum_by-cons (λ (c : Bool). cond c 1 0) b bits

one-le : (b : Bool) → cond b 1 0 ≤ 1
one-le true = omega arith
one-le false = omega arith

pub count-le-length : (bits : List Bool) → true_count bits ≤ length bits
count-le-length [] = omega arith
count-le-length (b ∷ bits) = omega (arith, count-le-length bits, one-le b, count-cons b bits)

-- a truth's part in the count
pub count-at : (bits : List Bool) (k : ℕ) → k < length bits → cond (flag_at bits k) 1 0 ≤ true_count bits
count-at [] k h = absurd (not-suc-le-zero h)
count-at (b ∷ bits) zero h = omega (arith, count-cons b bits)
count-at (b ∷ bits) (suc k) h = omega (arith, count-cons b bits, count-at bits k (le_of_suc-le-suc h))

pub count-set : (bits : List Bool) (k : ℕ) (c : Bool) → k < length bits → true_count (set bits k c) + cond (flag_at bits k) 1 0 ≡ true_count bits + cond c 1 0
count-set [] k c h = absurd (not-suc-le-zero h)
count-set (b ∷ bits) zero c h = omega (arith, count-cons b bits, count-cons c bits)
count-set (b ∷ bits) (suc k) c h = omega (arith, count-cons b bits, count-cons b (set bits k c), count-set bits k c (le_of_suc-le-suc h))

pub count-push : (bits : List Bool) (c : Bool) → true_count (bits ++ c ∷ []) ≡ true_count bits + cond c 1 0
count-push [] c = omega (arith, count-cons c [])
count-push (b ∷ bits) c = omega (arith, count-cons b bits, count-cons b (bits ++ c ∷ []), count-push bits c)

-- where none is counted, none is true
none_from : (c : Bool) → cond c 1 0 ≤ 0 → c ≡ false
none_from true h = absurd (omega arith)
none_from false h = refl

pub none-true : (bits : List Bool) → true_count bits ≡ 0 → (k : ℕ) → flag_at bits k ≡ false
none-true [] e k = refl
none-true (b ∷ bits) e zero = none_from b (omega (arith, count-cons b bits))
none-true (b ∷ bits) e (suc k) = none-true bits (omega (arith, count-cons b bits)) k

-- a count of truths that a test gives
pub count-map : {X : Type 0} (p : X → Bool) (xs : List X) → true_count (map p xs) ≡ count_by p xs
count-map p [] = refl
count-map p (x ∷ xs) =
    count-cons (p x) (map p xs) ∙ ap (λ n. cond (p x) 1 0 + n) (count-map p xs) ∙ sym (sum_by-cons (λ y. cond (p y) 1 0) x xs)
