-- The longest front that is a name.
use Rattle.std.proofs.Common.{◌≡◌, ℕ, ◌+◌, suc, zero, ◌<◌, ◌≤◌, Bool, true, false, ◌&&◌, cond, List, [], ◌∷◌, length, take, get_or, refl, arith}
use Rattle.std.specs.List.{list_all, prefix_len}
use Rattle.std.proofs.lemmas.Bool.{and_parts}
use Rattle.std.proofs.lemmas.List.Sums.{prefix_len-le-length}
use Rattle.sp_lp_tokens.specs.Longest.{IsLongest}
use Rattle.sp_lp_tokens.specs.Texts.{is_name, is_name_byte, begins_name}

at_yes : (p : ℕ → Bool) (x : ℕ) (xs : List ℕ) (k : ℕ) (b : Bool) → p x ≡ b → suc k ≤ cond b (1 + prefix_len p xs) 0 → (k ≤ prefix_len p xs → list_all p (take k xs) ≡ true) → (p x && list_all p (take k xs)) ≡ true
at_yes p x xs k true e l ih = rw (e, ih (omega arith)) refl
at_yes p x xs k false e l ih = absurd (omega arith)

-- a front within the run passes, one beyond it doesn't
all_within : (p : ℕ → Bool) (xs : List ℕ) (k : ℕ) → k ≤ prefix_len p xs → list_all p (take k xs) ≡ true
all_within p xs zero h = refl
all_within p [] (suc k) h = refl
all_within p (x ∷ xs) (suc k) h = at_yes p x xs k (p x) refl h (λ l. all_within p xs k l)

at_no : (p : ℕ → Bool) (x : ℕ) (xs : List ℕ) (k : ℕ) (b : Bool) → p x ≡ b → cond b (1 + prefix_len p xs) 0 < suc k → (prefix_len p xs < k → list_all p (take k xs) ≡ false) → (p x && list_all p (take k xs)) ≡ false
at_no p x xs k true e l ih = rw (e, ih (omega arith)) refl
at_no p x xs k false e l ih = rw e refl

none_beyond : (p : ℕ → Bool) (xs : List ℕ) (k : ℕ) → prefix_len p xs < k → k ≤ length xs → list_all p (take k xs) ≡ false
none_beyond p xs zero h w = absurd (omega arith)
none_beyond p [] (suc k) h w = absurd (omega arith)
none_beyond p (x ∷ xs) (suc k) h w = at_no p x xs k (p x) refl h (λ l. none_beyond p xs k l (omega arith))

one_more : (n : ℕ) → 1 + n ≡ suc n
one_more n = omega arith

longer : (b : ℕ) (rest : List ℕ) → begins_name b ≡ true → (k : ℕ) → 1 + prefix_len is_name_byte rest < k → k ≤ length (b ∷ rest) → is_name (take k (b ∷ rest)) ≡ false
longer b rest e zero l w = absurd (omega arith)
longer b rest e (suc k) l w = rw (none_beyond is_name_byte rest k (omega arith) (omega arith), e) refl

-- the run of a name's bytes, where the first byte may begin a name
pub name_run : (b : ℕ) (rest : List ℕ) → begins_name b ≡ true → IsLongest is_name (b ∷ rest) (1 + prefix_len is_name_byte rest)
name_run b rest e = record {
  within = omega (arith, prefix_len-le-length is_name_byte rest);
  passes = λ l. rw (one_more, all_within is_name_byte rest (prefix_len is_name_byte rest) (omega arith), e) refl;
  longest = λ k l w. longer b rest e k l w;
}

-- no name begins with another byte
pub no_name_from : (b : ℕ) (rest : List ℕ) → begins_name b ≡ false → (k : ℕ) → 0 < k → is_name (take k (b ∷ rest)) ≡ false
no_name_from b rest e zero l = absurd (omega arith)
no_name_from b rest e (suc k) l = rw e refl

pub no_name : (b : ℕ) (rest : List ℕ) → begins_name b ≡ false → IsLongest is_name (b ∷ rest) 0
no_name b rest e = record {
  within = omega arith;
  passes = λ l. absurd (omega arith);
  longest = λ k l w. no_name_from b rest e k l;
}

pub no_name_in_nothing : IsLongest is_name [] 0
no_name_in_nothing = record {
  within = omega arith;
  passes = λ l. absurd (omega arith);
  longest = λ k l w. absurd (omega arith);
}

pub name_found : (bytes : List ℕ) (n : ℕ) → 1 ≤ length bytes → begins_name (get_or bytes 0 0) ≡ true → n ≡ prefix_len is_name_byte bytes → IsLongest is_name bytes n
name_found [] n l e q = absurd (omega arith)
name_found (b ∷ rest) n l e q =
    let run : prefix_len is_name_byte (b ∷ rest) ≡ 1 + prefix_len is_name_byte rest = rw ((and_parts (is_name_byte b) _ e).0) refl in
    rw (q, run) (name_run b rest e)

pub name_not_found : (bytes : List ℕ) → 1 ≤ length bytes → begins_name (get_or bytes 0 0) ≡ false → IsLongest is_name bytes 0
name_not_found [] l e = absurd (omega arith)
name_not_found (b ∷ rest) l e = no_name b rest e
