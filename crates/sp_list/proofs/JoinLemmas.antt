-- Sets of points that no two tests share join to one set.
use Rattle.std.proofs.Common.{◌≢◌, suc, Bool, ◌||◌, List, [], ◌∷◌, ◌++◌, sym, subst, inl, inr, AllPairs, Contains, IsTrue, ℤ, arith}
use Rattle.std.proofs.lemmas.Bool.{or_cases, or_left, or_right}
use Rattle.std.proofs.lemmas.List.Elements.{Contains-append_cases, Contains-append_left, Contains-append_right, Contains-get_or}
use Rattle.std.proofs.lemmas.List.Kept.{AllPairs-cons}
use Rattle.sp_list.specs.Lists.{IsSetOf}
use Rattle.sp_list.proofs.ContainsLemmas.{Contains-here, Contains-later}

-- the first stands at no later place
first_apart : {X : Type 0} (x : X) (xs : List X) → AllPairs (λ x y. x ≢ y) (x ∷ xs) → Contains xs x → ⊥
first_apart x xs s h = s 0 (suc h.0) x (omega arith) (omega (arith, h.1)) (sym h.2)

-- no two of the first or of the second are alike, and none of the first is one of the second
pub pairs_join : {X : Type 0} (xs ys : List X) → AllPairs (λ x y. x ≢ y) xs → AllPairs (λ x y. x ≢ y) ys → ((z : X) → Contains xs z → Contains ys z → ⊥) → AllPairs (λ x y. x ≢ y) (xs ++ ys)
pairs_join [] ys s t apart = t
pairs_join (x ∷ xs) ys s t apart =
    AllPairs-cons (λ x y. x ≢ y) x (xs ++ ys)
    (λ k d long same. elim (Contains-append_cases xs ys x (subst (λ v. Contains (xs ++ ys) v) (sym same) (Contains-get_or (xs ++ ys) k d long))) [
      | inl here ↦ first_apart x xs s here
      | inr there ↦ apart x (Contains-here x xs) there
    ])
    (pairs_join xs ys (λ i j d lt long. s (suc i) (suc j) d (omega arith) (omega arith)) t (λ z h k. apart z (Contains-later x xs z h) k))

pub join : (first second : List ℤ → Bool) (xs ys : List (List ℤ)) → ((x : List ℤ) → IsTrue (first x) → IsTrue (second x) → ⊥) → IsSetOf first xs → IsSetOf second ys → IsSetOf (λ x. first x || second x) (xs ++ ys)
join first second xs ys apart s t = record {
  once = pairs_join xs ys s.once t.once (λ z h k. apart z ((s.exact z).0 h) ((t.exact z).0 k));
  exact = λ x. (
    λ h. elim (Contains-append_cases xs ys x h) [
      | inl here ↦ or_left (first x) (second x) ((s.exact x).0 here)
      | inr there ↦ or_right (first x) (second x) ((t.exact x).0 there)
    ],
    λ h. elim (or_cases (first x) (second x) h) [
      | inl here ↦ Contains-append_left xs ys x ((s.exact x).1 here)
      | inr there ↦ Contains-append_right xs ys x ((t.exact x).1 there)
    ],
  );
}
