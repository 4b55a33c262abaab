-- The stated lists keep the rules of lists, name rows of the model, and have at most one entry.
use Rattle.std.proofs.Common.{◌≡◌, ℕ, zero, suc, ◌+◌, ◌<◌, ◌≤◌, Bool, true, false, cond, List, [], ◌∷◌, ◌++◌, length, take, get_or, All, ℤ, pos, neg_ℤ, int_lt, ◌≤ℤ◌, refl, arith}
use Rattle.std.specs.List.{list_any}
use Rattle.std.specs.Ordering.{int_eq}
use Rattle.std.proofs.lemmas.Int.{ints}
use Rattle.std.proofs.lemmas.List.Elements.{All-append}
use Rattle.sp_model.specs.declared.parts.Row.{Row}
use Rattle.sp_model.specs.declared.parts.ModelParts.{ModelParts}
use Rattle.sp_model.specs.Rules.{IsLawful}
use Rattle.sp_model.specs.Sums.{Term}
use Rattle.sp_dual.specs.Lists.{MultiplierList, zero_list}
use Rattle.sp_bound.specs.Bounds.{Weight, coefficient_in}
use Rattle.sp_bound.specs.StatedLists.{IsStated, is_same, lists_of_rows, lists_of_terms, new_lists, single_list, stated_lists}
use Rattle.sp_bound.specs.Stating.{IsFactor, IsSmall}
use Rattle.sp_bound.proofs.StatingLemmas.{coefficient_small, costs_small, factor_of, rows_factors, single_formed}

all_cons : {X : Type 0} (P : X → Type 0) (x : X) (xs : List X) → P x → All P xs → All P (x ∷ xs)
all_cons P x xs h k zero d l = h
all_cons P x xs h k (suc i) d l = k i d (omega (arith, l))

all_none : {X : Type 0} (P : X → Type 0) → All P []
all_none P i d l = absurd (omega (arith, l))

all_take : {X : Type 0} (P : X → Type 0) (n : ℕ) (xs : List X) → All P xs → All P (take n xs)
all_take P zero xs h = all_none P
all_take P (suc n) [] h = all_none P
all_take P (suc n) (x ∷ xs) h = all_cons P x (take n xs) (h 0 x (omega arith)) (all_take P n xs (λ k d l. h (suc k) d (omega (arith, l))))

-- ---- the lists of terms

zero_stated : (m : ModelParts) → IsStated m zero_list
zero_stated m = record {
  formed = record { positive = (let one : pos 1 ≤ℤ pos 1 = omega (arith, ints) in one); few = omega arith; rising = tt };
  known = record { each = all_none (λ (w : Weight). w.0 < length m.rows) };
  short = omega arith;
}

single_stated : (m : ModelParts) (i : ℕ) (a c : ℤ) → i < length m.rows → IsFactor a → IsFactor c → IsStated m (single_list i a c)
single_stated m i a c l f g = record {
  formed = single_formed i a c f g;
  known = record { each = all_cons (λ (w : Weight). w.0 < length m.rows) (i, cond (int_lt (pos 0) a) c (neg_ℤ c)) [] l (all_none (λ (w : Weight). w.0 < length m.rows)) };
  short = omega arith;
}

term_case : (m : ModelParts) (i : ℕ) (a c : ℤ) (ls : List MultiplierList) (p : Bool) → int_eq c (pos 0) ≡ p → i < length m.rows → IsFactor a → IsSmall c → All (IsStated m) ls → All (IsStated m) (cond p ls (single_list i a c ∷ ls))
term_case m i a c ls true e l f s h = h
term_case m i a c ls false e l f s h = all_cons (IsStated m) (single_list i a c) ls (single_stated m i a c l f (factor_of c false e refl s)) h

terms_stated : (m : ModelParts) (i : ℕ) (ts : List Term) → i < length m.rows → All (λ (t : Term). IsSmall t.1) m.cost → All (λ (t : Term). IsFactor t.1) ts → All (IsStated m) (lists_of_terms m.cost i ts)
terms_stated m i [] l s f = all_none (IsStated m)
terms_stated m i (t ∷ ts) l s f =
    term_case m i t.1 (coefficient_in m.cost t.0) (lists_of_terms m.cost i ts) (int_eq (coefficient_in m.cost t.0) (pos 0)) refl l (f 0 t (omega arith)) (coefficient_small m.cost t.0 s) (terms_stated m i ts l s (λ k d g. f (suc k) d (omega (arith, g))))

rows_stated : (m : ModelParts) (i : ℕ) (rows : List Row) → i + length rows ≤ length m.rows → All (λ (t : Term). IsSmall t.1) m.cost → All (λ (row : Row). All (λ (t : Term). IsFactor t.1) row.terms) rows → All (IsStated m) (lists_of_rows m.cost i rows)
rows_stated m i [] l s f = all_none (IsStated m)
rows_stated m i (row ∷ rows) l s f =
    All-append (IsStated m) (lists_of_terms m.cost i row.terms) (lists_of_rows m.cost (suc i) rows)
    (terms_stated m i row.terms (omega (arith, l)) s (f 0 row (omega arith)))
    (rows_stated m (suc i) rows (omega (arith, l)) s (λ k d g. f (suc k) d (omega (arith, g))))

new_case : (m : ModelParts) (l : MultiplierList) (xs ys : List MultiplierList) (p : Bool) → IsStated m l → All (IsStated m) xs → All (IsStated m) ys → All (IsStated m) (cond p xs (l ∷ ys))
new_case m l xs ys true h k g = k
new_case m l xs ys false h k g = all_cons (IsStated m) l ys h g

new_stated : (m : ModelParts) (seen ls : List MultiplierList) → All (IsStated m) ls → All (IsStated m) (new_lists seen ls)
new_stated m seen [] h = all_none (IsStated m)
new_stated m seen (l ∷ ls) h =
    let rest : All (IsStated m) ls = λ k d g. h (suc k) d (omega (arith, g)) in
    new_case m l (new_lists seen ls) (new_lists (seen ++ l ∷ []) ls) (list_any (is_same l) seen) (h 0 l (omega arith)) (new_stated m seen ls rest) (new_stated m (seen ++ l ∷ []) ls rest)

pub stated_are : (m : ModelParts) → IsLawful m → All (IsStated m) (stated_lists m)
unfolding stated_lists
stated_are m lawful =
    all_cons (IsStated m) zero_list (take 64 (new_lists (zero_list ∷ []) (lists_of_rows m.cost 0 m.rows))) (zero_stated m)
    (all_take (IsStated m) 64 (new_lists (zero_list ∷ []) (lists_of_rows m.cost 0 m.rows)) (new_stated m (zero_list ∷ []) (lists_of_rows m.cost 0 m.rows) (rows_stated m 0 m.rows (omega arith) (costs_small m lawful) (rows_factors m lawful))))

take_length : {X : Type 0} (n : ℕ) (xs : List X) → length (take n xs) ≤ n
take_length zero xs = omega arith
take_length (suc n) [] = omega arith
take_length (suc n) (x ∷ xs) = omega (arith, take_length n xs)

pub stated_few : (m : ModelParts) → length (stated_lists m) ≤ 65
unfolding stated_lists
stated_few m = omega (arith, take_length 64 (new_lists (zero_list ∷ []) (lists_of_rows m.cost 0 m.rows)))

pub stated_first : (m : ModelParts) (d : MultiplierList) → get_or (stated_lists m) 0 d ≡ zero_list
unfolding stated_lists
stated_first m d = refl

pub stated_some : (m : ModelParts) → 0 < length (stated_lists m)
unfolding stated_lists
stated_some m = omega arith
