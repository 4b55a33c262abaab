-- Lawful terms as a test, and the first item that breaks its rule.
use Rattle.std.proofs.Common.{◌≡◌, ◌≢◌, ◌↔◌, ℕ, suc, ◌+◌, ◌<◌, ◌≤◌, Bool, true, false, ◌&&◌, not, IsTrue, List, [], ◌∷◌, length, get_or, take, ℤ, pos, leb, ltb, All, refl, sym, ◌∙◌, subst, length-take-le, take_all, arith}
use Rattle.std.specs.Cmp.{signed_Decides}
use Rattle.std.specs.List.{AllPairs}
use Rattle.std.specs.Ordering.{int_eq}
use Rattle.std.proofs.lemmas.Bool.{and_parts, false_from_ne_true, not-true, le-leb, lt-leb, lt-ltb, le-ltb, leb-true, ltb-true}
use Rattle.std.proofs.lemmas.List.Elements.{All-nil, All-cons, All-head, All-tail, All-more}
use Rattle.std.proofs.lemmas.List.Kept.{AllPairs-cons}
use Rattle.sp_model.specs.Rounds.{terms_rise}
use Rattle.sp_model.specs.Sums.{Term}
use Rattle.sp_model.specs.Rules.{AreTermsLawful, AreLawful, IsFirstBroken}

nonzero_test : (v : ℤ) → v ≢ pos 0 → int_eq v (pos 0) ≡ false
nonzero_test v h = false_from_ne_true (int_eq v (pos 0)) (λ e. h ((signed_Decides v (pos 0)).0 e))

test_nonzero : (v : ℤ) → not (int_eq v (pos 0)) ≡ true → v ≢ pos 0
test_nonzero v h e = let f = not-true (int_eq v (pos 0)) h in let t = (signed_Decides v (pos 0)).1 e in cc

AllPairs-first : {X : Type 0} (R : X → X → Type 0) (x : X) (xs : List X) → AllPairs R (x ∷ xs) → All (R x) xs
AllPairs-first R x xs h = λ k d l. h 0 (suc k) d (omega arith) (omega arith)

AllPairs-rest : {X : Type 0} (R : X → X → Type 0) (x : X) (xs : List X) → AllPairs R (x ∷ xs) → AllPairs R xs
AllPairs-rest R x xs h = λ i j d l m. h (suc i) (suc j) d (omega arith) (omega arith)

-- ---- the test of terms by a least variable, one term after another

-- a term that stands too early, that isn't known, or whose coefficient is 0
pub rise_early : (count next : ℕ) (t : Term) (ts : List Term) → t.0 < next → terms_rise count next (t ∷ ts) ≡ false
rise_early count next t ts h = rw (lt-leb next t.0 h)

pub rise_unknown : (count next : ℕ) (t : Term) (ts : List Term) → next ≤ t.0 → count ≤ t.0 → terms_rise count next (t ∷ ts) ≡ false
rise_unknown count next t ts h k = rw (le-leb next t.0 h, le-ltb t.0 count k)

pub rise_zero : (count next : ℕ) (t : Term) (ts : List Term) → next ≤ t.0 → t.0 < count → t.1 ≡ pos 0 → terms_rise count next (t ∷ ts) ≡ false
rise_zero count next t ts h k z = rw (le-leb next t.0 h, lt-ltb t.0 count k, z)

pub rise_next : (count next : ℕ) (t : Term) (ts : List Term) → next ≤ t.0 → t.0 < count → t.1 ≢ pos 0 → terms_rise count next (t ∷ ts) ≡ terms_rise count (t.0 + 1) ts
rise_next count next t ts h k z = rw (le-leb next t.0 h, lt-ltb t.0 count k, nonzero_test t.1 z)

-- a first term that passes
pub record IsRisen (count next : ℕ) (t : Term) (ts : List Term) : Type 0 where
  pub least : next ≤ t.0
  pub known : t.0 < count
  pub nonzero : t.1 ≢ pos 0
  pub later : terms_rise count (t.0 + 1) ts ≡ true

pub risen : (count next : ℕ) (t : Term) (ts : List Term) → terms_rise count next (t ∷ ts) ≡ true → IsRisen count next t ts
risen count next t ts h =
    let p = and_parts ((leb next t.0 && ltb t.0 count) && not (int_eq t.1 (pos 0))) (terms_rise count (t.0 + 1) ts) h in
    let q = and_parts (leb next t.0 && ltb t.0 count) (not (int_eq t.1 (pos 0))) p.0 in
    let r = and_parts (leb next t.0) (ltb t.0 count) q.0 in
    record { least = leb-true next t.0 r.0; known = ltb-true t.0 count r.1; nonzero = test_nonzero t.1 q.1; later = p.1 }

rises_from : (count next : ℕ) (ts : List Term) → AreTermsLawful count ts → All (λ t. next ≤ t.0) ts → terms_rise count next ts ≡ true
rises_from count next [] h low = refl
rises_from count next (t ∷ ts) h low =
    let first = AllPairs-first (λ (u v : Term). u.0 < v.0) t ts h.rising in
    let rest : AreTermsLawful count ts = record {
      known = All-tail (λ (u : Term). u.0 < count) t ts h.known;
      rising = AllPairs-rest (λ (u v : Term). u.0 < v.0) t ts h.rising;
      nonzero = All-tail (λ (u : Term). u.1 ≢ pos 0) t ts h.nonzero;
    } in
    let a : next ≤ t.0 = All-head (λ (u : Term). next ≤ u.0) t ts low in
    let b : t.0 < count = All-head (λ (u : Term). u.0 < count) t ts h.known in
    let z : t.1 ≢ pos 0 = All-head (λ (u : Term). u.1 ≢ pos 0) t ts h.nonzero in
    rise_next count next t ts a b z ∙ rises_from count (t.0 + 1) ts rest (λ k d l. omega (arith, first k d l))

pub rises_least : (count next : ℕ) (ts : List Term) → terms_rise count next ts ≡ true → All (λ t. next ≤ t.0) ts
rises_least count next [] r = All-nil (λ (u : Term). next ≤ u.0)
rises_least count next (t ∷ ts) r =
    let p = risen count next t ts r in
    let later = rises_least count (t.0 + 1) ts p.later in
    All-cons (λ (u : Term). next ≤ u.0) t ts p.least (λ k d l. omega (arith, later k d l, p.least))

pub rises_lawful : (count next : ℕ) (ts : List Term) → terms_rise count next ts ≡ true → AreTermsLawful count ts
rises_lawful count next [] r = record {
  known = All-nil (λ (u : Term). u.0 < count);
  rising = λ i j d l m. absurd (omega arith);
  nonzero = All-nil (λ (u : Term). u.1 ≢ pos 0);
}
rises_lawful count next (t ∷ ts) r =
    let p = risen count next t ts r in
    let rest = rises_lawful count (t.0 + 1) ts p.later in
    let later = rises_least count (t.0 + 1) ts p.later in
    record {
      known = All-cons (λ (u : Term). u.0 < count) t ts p.known rest.known;
      rising = AllPairs-cons (λ (u v : Term). u.0 < v.0) t ts (λ k d l. omega (arith, later k d l)) rest.rising;
      nonzero = All-cons (λ (u : Term). u.1 ≢ pos 0) t ts p.nonzero rest.nonzero;
    }

-- the test says whether terms are lawful
pub terms_tested : (count : ℕ) (ts : List Term) → IsTrue (terms_rise count 0 ts) ↔ AreTermsLawful count ts
terms_tested count ts = (λ r. rises_lawful count 0 ts r, λ h. rises_from count 0 ts h (λ k d l. omega arith))

module _ {X : Type 0} (limit : ℕ) (P : X → Type 0) (xs : List X) where
  pub first_broken : (k : ℕ) (x : X) → k < length xs → x ≡ get_or xs k x → k ≤ limit → All P (take k xs) → ¬ P x → IsFirstBroken limit P xs k
  first_broken k x l e few h n = record {
    here = l;
    before = record { few = omega (arith, length-take-le k xs); each = h };
    broken = λ _ holds. n (subst P (sym e) (holds x));
  }

  pub first_past : (k : ℕ) → k < length xs → k ≤ limit → limit ≤ k → All P (take k xs) → IsFirstBroken limit P xs k
  first_past k l few past h = record {
    here = l;
    before = record { few = omega (arith, length-take-le k xs); each = h };
    broken = λ below _. omega arith;
  }

  pub one_more : (k : ℕ) (x : X) → k < length xs → x ≡ get_or xs k x → All P (take k xs) → P x → All P (take (k + 1) xs)
  one_more k x l e h p = All-more P xs k x l h (subst P e p)

  pub all_lawful : (k : ℕ) → length xs ≤ k → k ≤ limit → All P (take k xs) → AreLawful limit P xs
  all_lawful k l few h = record { few = omega arith; each = subst (All P) (take_all k xs l) h }
