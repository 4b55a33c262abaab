-- Lists that are stated one after another: those that equal an earlier one are left out, up to 65 in all.
use Rattle.std.proofs.Common.{◌≡◌, ◌≢◌, ◌↔◌, ℕ, zero, suc, ◌+◌, ◌-◌, ◌*◌, ◌^◌, ◌<◌, ◌≤◌, Bool, true, false, ◌&&◌, cond, nat_eq, List, [], ◌∷◌, ◌++◌, length, take, get_or, All, ℤ, pos, neg_ℤ, int_lt, refl, sym, ap, ap₂, subst, ◌∙◌, arith, append_assoc, length-append}
use Rattle.std.specs.List.{list_any}
use Rattle.std.specs.Ordering.{int_eq}
use Rattle.std.specs.Int.RustNames.{unsigned_abs}
use Rattle.std.proofs.Math.Nat.{mul-le-mul_left}
use Rattle.std.proofs.lemmas.Bool.Decides.{nat_tests, Decides-int_eq}
use Rattle.std.proofs.lemmas.Int.{ints}
use Rattle.sp_model.specs.declared.parts.Row.{Row}
use Rattle.sp_model.specs.declared.parts.ModelParts.{ModelParts}
use Rattle.sp_model.specs.Boxes.{Bounds, range_at}
use Rattle.sp_model.specs.Models.{root_of}
use Rattle.sp_model.specs.Rules.{AreTermsLawful, IsLawful}
use Rattle.sp_model.specs.Sums.{Term, reach, width_over}
use Rattle.sp_dual.specs.Lists.{MultiplierList, IsWellFormed, zero_list}
use Rattle.sp_bound.specs.Bounds.{Weight, coefficient_in}
use Rattle.sp_bound.specs.StatedLists.{are_same_weights, is_same, lists_of_rows, lists_of_terms, new_lists, single_list, stated_lists}
use Rattle.sp_bound.specs.Stating.{AddsLists, IsFactor, IsSmall, lists_with, more_lists}

-- ---- equal lists

both_true : (p q : Bool) → (p && q) ≡ true → (p ≡ true) × (q ≡ true)
both_true true q h = (refl, h)
both_true false q h = absurd (cc)

join_true : (p q : Bool) → p ≡ true → q ≡ true → (p && q) ≡ true
join_true true q h k = k
join_true false q h k = absurd (cc)

place_same : (i j : ℕ) → nat_eq i j ≡ true → i ≡ j
place_same i j h = grind (arith, nat_tests)

place_itself : (i : ℕ) → nat_eq i i ≡ true
place_itself i = grind (arith, nat_tests)

abbrev weight_of : ℕ → ℤ → Weight
weight_of i y = (i, y)

weights_same : (vs ws : List Weight) → are_same_weights vs ws ≡ true → vs ≡ ws
weights_same [] [] h = refl
weights_same [] (w ∷ ws) h = absurd (cc)
weights_same (v ∷ vs) [] h = absurd (cc)
weights_same (v ∷ vs) (w ∷ ws) h =
    let parts = both_true (nat_eq v.0 w.0 && int_eq v.1 w.1) (are_same_weights vs ws) h in
    let first = both_true (nat_eq v.0 w.0) (int_eq v.1 w.1) parts.0 in
    let row : v.0 ≡ w.0 = place_same v.0 w.0 first.0 in
    let multiplier : v.1 ≡ w.1 = (Decides-int_eq v.1 w.1).0 first.1 in
    let rest : vs ≡ ws = weights_same vs ws parts.1 in
    ap₂ (λ (x : Weight) (xs : List Weight). x ∷ xs) (ap₂ (λ (i : ℕ) (y : ℤ). weight_of i y) row multiplier) rest

weights_itself : (vs : List Weight) → are_same_weights vs vs ≡ true
weights_itself [] = refl
weights_itself (v ∷ vs) =
    join_true (nat_eq v.0 v.0 && int_eq v.1 v.1) (are_same_weights vs vs) (join_true (nat_eq v.0 v.0) (int_eq v.1 v.1) (place_itself v.0) ((Decides-int_eq v.1 v.1).1 refl)) (weights_itself vs)

abbrev list_of : ℤ → List Weight → MultiplierList
list_of d y = record { d = d; y = y }

same_lists : (k l : MultiplierList) → is_same k l ≡ true → k ≡ l
same_lists k l h =
    let parts = both_true (int_eq k.d l.d) (are_same_weights k.y l.y) h in
    let divisor : k.d ≡ l.d = (Decides-int_eq k.d l.d).0 parts.0 in
    let weights : k.y ≡ l.y = weights_same k.y l.y parts.1 in
    ap₂ list_of divisor weights

same_itself : (k l : MultiplierList) → k ≡ l → is_same k l ≡ true
same_itself k l e = subst (λ (x : MultiplierList). is_same k x ≡ true) e (join_true (int_eq k.d k.d) (are_same_weights k.y k.y) ((Decides-int_eq k.d k.d).1 refl) (weights_itself k.y))

pub same_told : (r : Bool) (k l : MultiplierList) → (r ≡ true) ↔ (k ≡ l) → r ≡ is_same k l
same_told r k l h = by_test r (is_same k l) refl refl
  where
    by_test : (p q : Bool) → r ≡ p → is_same k l ≡ q → r ≡ is_same k l
    by_test true true e f = e ∙ sym f
    by_test false false e f = e ∙ sym f
    by_test true false e f = e ∙ sym (same_itself k l (h.0 e))
    by_test false true e f = h.1 (same_lists k l f) ∙ sym f

-- ---- one more list

pub adds_listed : (l : MultiplierList) (seen : List MultiplierList) → list_any (is_same l) seen ≡ true → AddsLists (l ∷ []) seen seen
adds_listed l seen h = record {
  each = λ rest. ap (λ (p : Bool). seen ++ take (65 - length seen) (cond p (new_lists seen rest) (l ∷ new_lists (seen ++ l ∷ []) rest))) (sym h);
}

fresh_step : (l : MultiplierList) (seen rest : List MultiplierList) (n : ℕ) → 65 - length seen ≡ suc n → 65 - length (seen ++ l ∷ []) ≡ n → list_any (is_same l) seen ≡ false → more_lists (seen ++ l ∷ []) rest ≡ more_lists seen (l ∷ rest)
fresh_step l seen rest n e g h =
    ap (λ (k : ℕ). (seen ++ l ∷ []) ++ take k (new_lists (seen ++ l ∷ []) rest)) g
    ∙ append_assoc seen (l ∷ []) (take n (new_lists (seen ++ l ∷ []) rest))
    ∙ ap (λ (k : ℕ). seen ++ take k (l ∷ new_lists (seen ++ l ∷ []) rest)) (sym e)
    ∙ ap (λ (p : Bool). seen ++ take (65 - length seen) (cond p (new_lists seen rest) (l ∷ new_lists (seen ++ l ∷ []) rest))) (sym h)

pub adds_fresh : (l : MultiplierList) (seen : List MultiplierList) → length seen < 65 → list_any (is_same l) seen ≡ false → AddsLists (l ∷ []) seen (seen ++ l ∷ [])
adds_fresh l seen room h = record {
  each = λ rest. fresh_step l seen rest (64 - length seen) (omega (arith, room)) (let long : length (seen ++ l ∷ []) ≡ length seen + 1 = length-append seen (l ∷ []) in omega (arith, long, room)) h;
}

pub adds_none : (seen : List MultiplierList) → AddsLists [] seen seen
adds_none seen = record { each = λ rest. refl }

-- where there is no room, nothing comes
full_step : (seen rest other : List MultiplierList) → 65 ≤ length seen → more_lists seen rest ≡ more_lists seen other
full_step seen rest other h =
    let none : 65 - length seen ≡ 0 = omega (arith, h) in
    ap (λ (k : ℕ). seen ++ take k (new_lists seen rest)) none ∙ ap (λ (k : ℕ). seen ++ take k (new_lists seen other)) (sym none)

-- ---- many

-- these lists are left of all that come
pub record IsAdding (all left old now : List MultiplierList) : Type 0 where
  pub each : (rest : List MultiplierList) → more_lists now (left ++ rest) ≡ more_lists old (all ++ rest)

pub adding_start : (all old : List MultiplierList) → IsAdding all all old old
adding_start all old = record { each = λ rest. refl }

pub adding_stop : (all old now : List MultiplierList) → IsAdding all [] old now → AddsLists all old now
adding_stop all old now p = record { each = λ rest. p.each rest }

pub adding_full : (all left old now : List MultiplierList) → 65 ≤ length now → IsAdding all left old now → AddsLists all old now
adding_full all left old now h p = record { each = λ rest. full_step now rest (left ++ rest) h ∙ p.each rest }

pub adding_turn : (all first left whole old now new : List MultiplierList) → whole ≡ first ++ left → AddsLists first now new → IsAdding all whole old now → IsAdding all left old new
adding_turn all first left whole old now new e a p = record {
  each = λ rest. a.each (left ++ rest) ∙ ap (more_lists now) (sym (append_assoc first left rest) ∙ ap (λ (xs : List MultiplierList). xs ++ rest) (sym e)) ∙ p.each rest;
}

term_split : (p : Bool) (l : MultiplierList) (ls : List MultiplierList) → cond p ls (l ∷ ls) ≡ cond p [] (l ∷ []) ++ ls
term_split true l ls = refl
term_split false l ls = refl

pub terms_split : (cost : List Term) (i : ℕ) (t : Term) (ts : List Term) → lists_of_terms cost i (t ∷ ts) ≡ lists_of_terms cost i (t ∷ []) ++ lists_of_terms cost i ts
terms_split cost i t ts = term_split (int_eq (coefficient_in cost t.0) (pos 0)) (single_list i t.1 (coefficient_in cost t.0)) (lists_of_terms cost i ts)

-- ---- one term

one_list : (p : Bool) (l : MultiplierList) (old new : List MultiplierList) → p ≡ false → AddsLists (l ∷ []) old new → AddsLists (cond p [] (l ∷ [])) old new
one_list true l old new e a = absurd (cc)
one_list false l old new e a = a

no_list : (p : Bool) (l : MultiplierList) (old : List MultiplierList) → p ≡ true → AddsLists (cond p [] (l ∷ [])) old old
no_list true l old e = adds_none old
no_list false l old e = absurd (cc)

pub factor_of : (v : ℤ) (p : Bool) → int_eq v (pos 0) ≡ p → p ≡ false → IsSmall v → IsFactor v
factor_of v p e f s = record { nonzero = λ z. (let t : int_eq v (pos 0) ≡ true = (Decides-int_eq v (pos 0)).1 z in absurd (cc)); small = s.small }

pub term_without : (i : ℕ) (a c : ℤ) (old : List MultiplierList) (r : Bool) → r ≡ int_eq c (pos 0) → r ≡ true → AddsLists (lists_with i a c) old old
term_without i a c old r e t = no_list (int_eq c (pos 0)) (single_list i a c) old (sym e ∙ t)

pub term_with : (i : ℕ) (a c : ℤ) (l : MultiplierList) (old new : List MultiplierList) (r : Bool) → r ≡ int_eq c (pos 0) → r ≡ false → l ≡ single_list i a c → AddsLists (l ∷ []) old new → AddsLists (lists_with i a c) old new
term_with i a c l old new r e f s h =
    one_list (int_eq c (pos 0)) (single_list i a c) old new (sym e ∙ f) (subst (λ (x : MultiplierList). AddsLists (x ∷ []) old new) s h)

pub factor_told : (c : ℤ) (r : Bool) → r ≡ int_eq c (pos 0) → r ≡ false → IsSmall c → IsFactor c
factor_told c r e f s = factor_of c (int_eq c (pos 0)) refl (sym e ∙ f) s

-- ---- the numbers

pub coefficient_small : (ts : List Term) (j : ℕ) → All (λ (t : Term). IsSmall t.1) ts → IsSmall (coefficient_in ts j)
coefficient_small [] j h = record { small = omega arith }
coefficient_small (t ∷ ts) j h = chosen (nat_eq t.0 j) (h 0 t (omega arith)) (coefficient_small ts j (λ k d l. h (suc k) d (omega (arith, l))))
  where
    chosen : (p : Bool) → IsSmall t.1 → IsSmall (coefficient_in ts j) → IsSmall (cond p t.1 (coefficient_in ts j))
    chosen true a b = a
    chosen false a b = b

factor_below : (n k : ℕ) → 1 ≤ k → n ≤ n * k
factor_below n k h = omega (arith, mul-le-mul_left n h)

reach_positive : (r : ℤ × ℤ) → 1 ≤ reach r
reach_positive r = omega arith

terms_below : (b : Bounds) (ts : List Term) (k : ℕ) (d : Term) → k < length ts → unsigned_abs (get_or ts k d).1 ≤ width_over b ts
terms_below b [] k d l = absurd (omega (arith, l))
terms_below b (t ∷ ts) zero d l = omega (arith, factor_below (unsigned_abs t.1) (reach (range_at b t.0)) (reach_positive (range_at b t.0)))
terms_below b (t ∷ ts) (suc k) d l = omega (arith, terms_below b ts k d (omega (arith, l)))

pub terms_small : (b : Bounds) (ts : List Term) → width_over b ts ≤ 10 ^ 36 → All (λ (t : Term). IsSmall t.1) ts
terms_small b ts h = λ k d l. record { small = omega (arith, h, terms_below b ts k d l) }

pub terms_factors : (count : ℕ) (b : Bounds) (ts : List Term) → AreTermsLawful count ts → width_over b ts ≤ 10 ^ 36 → All (λ (t : Term). IsFactor t.1) ts
terms_factors count b ts lawful h = λ k d l. record { nonzero = lawful.nonzero k d l; small = omega (arith, h, terms_below b ts k d l) }

pub rows_factors : (m : ModelParts) → IsLawful m → All (λ (row : Row). All (λ (t : Term). IsFactor t.1) row.terms) m.rows
rows_factors m lawful = λ k d l. (let row = lawful.rows.each k d l in terms_factors (length (root_of m)) (root_of m) (get_or m.rows k d).terms row.terms (omega (arith, row.narrow)))

pub costs_small : (m : ModelParts) → IsLawful m → All (λ (t : Term). IsSmall t.1) m.cost
costs_small m lawful = terms_small (root_of m) m.cost (omega (arith, lawful.objective.narrow))

-- ---- a list of one row

turned_nonzero : (p : Bool) (c : ℤ) → c ≢ pos 0 → cond p c (neg_ℤ c) ≢ pos 0
turned_nonzero true c h = h
turned_nonzero false c h = λ e. h (omega (arith, ints, e))

pub single_formed : (i : ℕ) (a c : ℤ) → IsFactor a → IsFactor c → IsWellFormed (single_list i a c)
single_formed i a c h k = record {
  positive = (let n : unsigned_abs a ≢ 0 = λ e. h.nonzero (omega (arith, ints, e)) in omega (arith, ints, n));
  few = omega arith;
  rising = (omega arith, turned_nonzero (int_lt (pos 0) a) c k.nonzero, tt);
}

-- ---- all of them

abbrev empty_list : List MultiplierList
empty_list = []

take_none : (n : ℕ) → take n (empty_list) ≡ []
take_none zero = refl
take_none (suc n) = refl

append_none : (xs : List MultiplierList) → xs ++ [] ≡ xs
append_none [] = refl
append_none (x ∷ xs) = ap (λ (ys : List MultiplierList). x ∷ ys) (append_none xs)

pub stated_told : (m : ModelParts) (final : List MultiplierList) → AddsLists (lists_of_rows m.cost 0 m.rows) (zero_list ∷ []) final → final ≡ stated_lists m
unfolding stated_lists
stated_told m final a =
    sym (ap (λ (xs : List MultiplierList). final ++ xs) (take_none (65 - length final)) ∙ append_none final)
    ∙ a.each []
    ∙ ap (more_lists (zero_list ∷ [])) (append_none (lists_of_rows m.cost 0 m.rows))
    ∙ ap (λ (n : ℕ). (zero_list ∷ []) ++ take n (new_lists (zero_list ∷ []) (lists_of_rows m.cost 0 m.rows))) (let e : 65 - length (zero_list ∷ []) ≡ 64 = omega arith in e)

pub rows_turn : (cost : List Term) (all : List MultiplierList) (at n i : ℕ) (row : Row) (ts : List Term) (rest : List Row) (old now new : List MultiplierList) → n ≡ suc at → i ≡ at → ts ≡ row.terms → AddsLists (lists_of_terms cost i ts) now new → IsAdding all (lists_of_rows cost at (row ∷ rest)) old now → IsAdding all (lists_of_rows cost n rest) old new
rows_turn cost all at n i row ts rest old now new e f g a p =
    subst (λ (k : ℕ). IsAdding all (lists_of_rows cost k rest) old new) (sym e)
    (adding_turn all (lists_of_terms cost at row.terms) (lists_of_rows cost (suc at) rest) (lists_of_rows cost at (row ∷ rest)) old now new refl
    (subst (λ (k : ℕ). AddsLists (lists_of_terms cost k row.terms) now new) f (subst (λ (xs : List Term). AddsLists (lists_of_terms cost i xs) now new) g a)) p)

pub rows_told : (m n : ModelParts) (cost : List Term) (rows : List Row) (start final : List MultiplierList) → n ≡ m → cost ≡ n.cost → rows ≡ n.rows → start ≡ zero_list ∷ [] → AddsLists (lists_of_rows cost 0 rows) start final → final ≡ stated_lists m
rows_told m n cost rows start final same c r s a =
    let one : cost ≡ m.cost = c ∙ ap (λ (p : ModelParts). p.cost) same in
    let two : rows ≡ m.rows = r ∙ ap (λ (p : ModelParts). p.rows) same in
    stated_told m final
    (subst (λ (xs : List MultiplierList). AddsLists (lists_of_rows m.cost 0 m.rows) xs final) s
    (subst (λ (xs : List Row). AddsLists (lists_of_rows m.cost 0 xs) start final) two
    (subst (λ (xs : List Term). AddsLists (lists_of_rows xs 0 rows) start final) one a)))
