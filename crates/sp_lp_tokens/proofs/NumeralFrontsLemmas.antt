-- The longest front that is a number, as it is read byte by byte.
use Rattle.std.proofs.Common.{◌≡◌, ℕ, ◌+◌, suc, zero, ◌<◌, ◌≤◌, Bool, true, false, List, [], ◌∷◌, ◌++◌, length, take, get_or, refl, ap, sym, ◌∙◌, arith, append_assoc, ⊎_elim}
use Rattle.std.specs.Prelude.{Some, None, if◌then◌else◌}
use Rattle.std.proofs.lemmas.List.{take_more, append-nil}
use Rattle.std.proofs.lemmas.Bool.{cases_lt}
use Rattle.sp_lp_tokens.specs.declared.numeral_places.Place.{Place}
use Rattle.sp_lp_tokens.specs.Longest.{IsLongest}
use Rattle.sp_lp_tokens.specs.InnerNumeralPlaces.{ends_numeral}
use Rattle.sp_lp_tokens.specs.Texts.{is_number}
use Rattle.sp_lp_tokens.proofs.NumeralLeftLemmas.{left, left-nil, Continues}

-- i bytes are read, the numeral stands at the place, and the longest number so far has n bytes
pub record IsRead (bytes : List ℕ) (i : ℕ) (place : Place) (n : ℕ) : Type 0 where
  pub within : n ≤ i
  pub passes : 0 < n → is_number (take n bytes) ≡ true
  pub longest : (k : ℕ) → n < k → k ≤ i → is_number (take k bytes) ≡ false
  pub goes_on : (rest : List ℕ) → is_number (take i bytes ++ rest) ≡ left place rest

-- a longer front is the front with one byte more, and what follows it
front_splits : (bytes : List ℕ) (i k : ℕ) → i < k → k ≤ length bytes → (more : List ℕ) × (take k bytes ≡ take i bytes ++ get_or bytes i 0 ∷ more)
front_splits [] i k l w = absurd (omega arith)
front_splits (b ∷ bytes) i zero l w = absurd (omega arith)
front_splits (b ∷ bytes) zero (suc k) l w = (take k bytes, refl)
front_splits (b ∷ bytes) (suc i) (suc k) l w = let r = front_splits bytes i k (omega arith) (omega arith) in (r.0, ap (λ v. b ∷ v) r.1)

one_more_then : (bytes rest : List ℕ) (i : ℕ) → i < length bytes → take (i + 1) bytes ++ rest ≡ take i bytes ++ get_or bytes i 0 ∷ rest
one_more_then bytes rest i l = rw (take_more bytes i 0 l, append_assoc) refl

-- one byte more
more_goes_on : (bytes : List ℕ) (i : ℕ) (place next : Place) (n : ℕ) → IsRead bytes i place n → i < length bytes → Continues place (get_or bytes i 0) (Some next) → (rest : List ℕ) → is_number (take (i + 1) bytes ++ rest) ≡ left next rest
more_goes_on bytes i place next n h l e rest = ap is_number (one_more_then bytes rest i l) ∙ (h.goes_on (get_or bytes i 0 ∷ rest) ∙ e rest)

more_passes : (bytes : List ℕ) (i : ℕ) (place next : Place) (n : ℕ) → IsRead bytes i place n → i < length bytes → Continues place (get_or bytes i 0) (Some next) → is_number (take (i + 1) bytes) ≡ ends_numeral next
more_passes bytes i place next n h l e = ap is_number (sym (append-nil (take (i + 1) bytes))) ∙ (more_goes_on bytes i place next n h l e [] ∙ left-nil next)

pub read_more_longer : (bytes : List ℕ) (i : ℕ) (place next : Place) (n : ℕ) → IsRead bytes i place n → i < length bytes → Continues place (get_or bytes i 0) (Some next) → ends_numeral next ≡ true → IsRead bytes (i + 1) next (i + 1)
read_more_longer bytes i place next n h l e y = record {
  within = omega arith;
  passes = λ _. more_passes bytes i place next n h l e ∙ y;
  longest = λ k a w. absurd (omega arith);
  goes_on = more_goes_on bytes i place next n h l e;
}

pub read_more_same : (bytes : List ℕ) (i : ℕ) (place next : Place) (n : ℕ) → IsRead bytes i place n → i < length bytes → Continues place (get_or bytes i 0) (Some next) → ends_numeral next ≡ false → IsRead bytes (i + 1) next n
read_more_same bytes i place next n h l e y =
    let w : n ≤ i = h.within in
    record {
      within = omega arith;
      passes = h.passes;
      longest = λ k a b. ⊎_elim (λ c. h.longest k a (omega arith)) (λ c. let q : k ≡ i + 1 = omega arith in rw q (more_passes bytes i place next n h l e ∙ y)) (cases_lt k (i + 1));
      goes_on = more_goes_on bytes i place next n h l e;
    }

pub read_more : (bytes : List ℕ) (i : ℕ) (place next : Place) (n : ℕ) → IsRead bytes i place n → i < length bytes → Continues place (get_or bytes i 0) (Some next) → IsRead bytes (i + 1) next (if ends_numeral next then i + 1 else n)
read_more bytes i place next n h l e = by (ends_numeral next) refl where
  by : (b : Bool) → ends_numeral next ≡ b → IsRead bytes (i + 1) next (if b then i + 1 else n)
  by true y = read_more_longer bytes i place next n h l e y
  by false y = read_more_same bytes i place next n h l e y

-- where nothing may follow, or nothing does, the longest number so far is the longest
pub read_stops : (bytes : List ℕ) (i : ℕ) (place : Place) (n : ℕ) → IsRead bytes i place n → i < length bytes → Continues place (get_or bytes i 0) None → IsLongest is_number bytes n
read_stops bytes i place n h l e =
    let w : n ≤ i = h.within in
    record {
      within = omega arith;
      passes = h.passes;
      longest = λ k a b. ⊎_elim
          (λ c. let r = front_splits bytes i k c b in ap is_number r.1 ∙ (h.goes_on (get_or bytes i 0 ∷ r.0) ∙ e r.0))
          (λ c. h.longest k a c) (cases_lt i k);
    }
