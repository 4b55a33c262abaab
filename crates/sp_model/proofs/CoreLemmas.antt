-- Lawful cores, one after another.
use Rattle.std.proofs.Common.{◌≡◌, ◌≢◌, ℕ, ◌+◌, ◌-◌, ◌<◌, ◌≤◌, ◌⊎◌, inl, inr, List, length, get_or, take, All, ℤ, pos, refl, sym, ap, ◌∙◌, subst, length-take-le, take_all, arith}
use Rattle.std.specs.List.{AllPairs}
use Rattle.std.proofs.lemmas.Bool.{cases_lt}
use Rattle.std.proofs.lemmas.List.{get_or-take, get_or_default}
use Rattle.std.proofs.lemmas.List.Elements.{All-more, All-nil}
use Rattle.sp_model.specs.InnerRules.{core_at, RisesAt, HasFirstBrokenCore}
use Rattle.sp_model.specs.Rules.{IsCoreLawful, AreCoresLawful, IsFirstBrokenCore}
use Rattle.sp_model.specs.Stated.{Core, OpenBounds}

pub no_cores : (b : OpenBounds) (cores : List Core) → AreCoresLawful b (take 0 cores)
no_cores b cores = record { rising = λ i j d l m. absurd (omega arith); each = All-nil (IsCoreLawful b) }

pub at_default : (cores : List Core) (k : ℕ) (d : Core) → k < length cores → get_or cores k d ≡ core_at cores k
at_default cores k d l = get_or_default cores k d (0, pos 0, pos 0) l

-- two places of a front part
in_front : (cores : List Core) (n i : ℕ) (d : Core) → i < n → i < length cores → get_or (take n cores) i d ≡ core_at cores i
in_front cores n i d l m = get_or-take n cores i d l ∙ at_default cores i d m

rising_to : (b : OpenBounds) (cores : List Core) (k : ℕ) → AreCoresLawful b (take k cores) → k < length cores → RisesAt cores k → (i : ℕ) → i < k → (core_at cores i).0 < (core_at cores k).0
rising_to b cores k h l (inl zero) i m = absurd (omega arith)
rising_to b cores k h l (inr rises) i m =
    elim (cases_lt i (k - 1)) [
      | inl before ↦
          let long : length (take k cores) ≡ k = length-take-le k cores (omega arith) in
          let r : (get_or (take k cores) i (0, pos 0, pos 0)).0 < (get_or (take k cores) (k - 1) (0, pos 0, pos 0)).0 = h.rising i (k - 1) (0, pos 0, pos 0) before (omega arith) in
          let a = in_front cores k i (0, pos 0, pos 0) m (omega arith) in
          let c = in_front cores k (k - 1) (0, pos 0, pos 0) (omega arith) (omega arith) in
          let s : (core_at cores i).0 < (core_at cores (k - 1)).0 = (rw (a, c) at r) in
          omega arith
      | inr last ↦
          let same : i ≡ k - 1 = omega arith in
          subst (λ n. (core_at cores n).0 < (core_at cores k).0) (sym same) rises
    ]

pub more_cores : (b : OpenBounds) (cores : List Core) (k : ℕ) → AreCoresLawful b (take k cores) → k < length cores → RisesAt cores k → IsCoreLawful b (core_at cores k) → AreCoresLawful b (take (k + 1) cores)
more_cores b cores k h l rises here = record {
  rising = λ i j d lt long.
      let n : length (take (k + 1) cores) ≡ k + 1 = length-take-le (k + 1) cores (omega arith) in
      let a = in_front cores (k + 1) i d (omega arith) (omega arith) in
      let c = in_front cores (k + 1) j d (omega arith) (omega arith) in
      rw (a, c) (elim (cases_lt j k) [
        | inl before ↦
            let m : length (take k cores) ≡ k = length-take-le k cores (omega arith) in
            let r : (get_or (take k cores) i d).0 < (get_or (take k cores) j d).0 = h.rising i j d lt (omega arith) in
            (rw (in_front cores k i d (omega arith) (omega arith), in_front cores k j d (omega arith) (omega arith)) at r)
        | inr last ↦
            let same : j ≡ k = omega arith in
            subst (λ n. (core_at cores i).0 < (core_at cores n).0) (sym same) (rising_to b cores k h l rises i (omega arith))
      ]);
  each = All-more (IsCoreLawful b) cores k (core_at cores k) l h.each (subst (IsCoreLawful b) (sym (at_default cores k (core_at cores k) l)) here);
}

-- what lawful cores give at their last place
pub rises_there : (b : OpenBounds) (cores : List Core) (k : ℕ) → AreCoresLawful b (take (k + 1) cores) → k < length cores → RisesAt cores k
rises_there b cores k h l = elim (cases_lt 0 k) [
  | inl some ↦
      let n : length (take (k + 1) cores) ≡ k + 1 = length-take-le (k + 1) cores (omega arith) in
      let r : (get_or (take (k + 1) cores) (k - 1) (0, pos 0, pos 0)).0 < (get_or (take (k + 1) cores) k (0, pos 0, pos 0)).0 = h.rising (k - 1) k (0, pos 0, pos 0) (omega arith) (omega arith) in
      let a = in_front cores (k + 1) (k - 1) (0, pos 0, pos 0) (omega arith) (omega arith) in
      let c = in_front cores (k + 1) k (0, pos 0, pos 0) (omega arith) l in
      inr (rw (a, c) at r)
  | inr none ↦ inl (omega arith)
]

pub lawful_there : (b : OpenBounds) (cores : List Core) (k : ℕ) → AreCoresLawful b (take (k + 1) cores) → k < length cores → IsCoreLawful b (core_at cores k)
lawful_there b cores k h l =
    let n : length (take (k + 1) cores) ≡ k + 1 = length-take-le (k + 1) cores (omega arith) in
    subst (IsCoreLawful b) (in_front cores (k + 1) k (0, pos 0, pos 0) (omega arith) l) (h.each k (0, pos 0, pos 0) (omega arith))

pub first_core : (b : OpenBounds) (cores : List Core) (k j : ℕ) → k < length cores → (core_at cores k).0 ≡ j → AreCoresLawful b (take k cores) → (AreCoresLawful b (take (k + 1) cores) → ⊥) → HasFirstBrokenCore b cores j
first_core b cores k j l e h n = record {
  place = k;
  first = record { here = l; before = h; broken = n; variable = ap (λ (c : Core). c.0) (at_default cores k (j, pos 0, pos 0) l) ∙ e };
}

pub all_cores : (b : OpenBounds) (cores : List Core) (k : ℕ) → length cores ≤ k → AreCoresLawful b (take k cores) → AreCoresLawful b cores
all_cores b cores k l h = subst (AreCoresLawful b) (take_all k cores l) h
