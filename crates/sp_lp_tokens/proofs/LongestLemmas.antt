-- The longest front is one, and of three tests with different first bytes it is the longest of its own.
use Rattle.std.proofs.Common.{◌≡◌, ℕ, ◌<◌, ◌≤◌, Bool, false, ◌||◌, List, length, take, sym, ◌∙◌, ⊎_elim, arith}
use Rattle.std.proofs.lemmas.Bool.{false≢true, cases_order, or_left, or_right, or_from}
use Rattle.sp_lp_tokens.specs.Longest.{IsLongest}

above_none : (test : List ℕ → Bool) (bytes : List ℕ) (m n : ℕ) → IsLongest test bytes m → IsLongest test bytes n → m < n → ⊥
above_none test bytes m n a b l = false≢true (sym (a.longest n l b.within) ∙ b.passes (omega arith))

-- two longest fronts are one
pub longest_is_one : (test : List ℕ → Bool) (bytes : List ℕ) (m n : ℕ) → IsLongest test bytes m → IsLongest test bytes n → m ≡ n
longest_is_one test bytes m n a b =
    ⊎_elim (λ e. e) (λ o. ⊎_elim (λ l. absurd (above_none test bytes m n a b l)) (λ l. absurd (above_none test bytes n m b a l)) o) (cases_order m n)

-- no front but the empty one passes
abbrev pub NoFront : (List ℕ → Bool) → List ℕ → Type 0
NoFront test bytes = (k : ℕ) → 0 < k → k ≤ length bytes → test (take k bytes) ≡ false

-- where the other two tests pass no front, the longest front of one of three tests is the longest of all three
pub longest_first : (a b c : List ℕ → Bool) (bytes : List ℕ) (n : ℕ) → IsLongest a bytes n → NoFront b bytes → NoFront c bytes → IsLongest (λ t. a t || b t || c t) bytes n
longest_first a b c bytes n h nb nc = record {
  within = h.within;
  passes = λ l. or_left _ _ (or_left _ _ (h.passes l));
  longest = λ k l w. or_from _ _ (or_from _ _ (h.longest k l w) (nb k (omega arith) w)) (nc k (omega arith) w);
}

pub longest_second : (a b c : List ℕ → Bool) (bytes : List ℕ) (n : ℕ) → IsLongest b bytes n → NoFront a bytes → NoFront c bytes → IsLongest (λ t. a t || b t || c t) bytes n
longest_second a b c bytes n h na nc = record {
  within = h.within;
  passes = λ l. or_left _ _ (or_right _ _ (h.passes l));
  longest = λ k l w. or_from _ _ (or_from _ _ (na k (omega arith) w) (h.longest k l w)) (nc k (omega arith) w);
}

pub longest_third : (a b c : List ℕ → Bool) (bytes : List ℕ) (n : ℕ) → IsLongest c bytes n → NoFront a bytes → NoFront b bytes → IsLongest (λ t. a t || b t || c t) bytes n
longest_third a b c bytes n h na nb = record {
  within = h.within;
  passes = λ l. or_right _ _ (h.passes l);
  longest = λ k l w. or_from _ _ (or_from _ _ (na k (omega arith) w) (nb k (omega arith) w)) (h.longest k l w);
}
