-- Lists whose numbers stay small on each box inside the closed one: their bounds never end.
use Rattle.std.proofs.Common.{◌≡◌, ℕ, zero, suc, ◌+◌, ◌*◌, ◌^◌, ◌<◌, ◌≤◌, Bool, true, false, ◌&&◌, cond, nat_lt, List, [], ◌∷◌, ◌++◌, length, map, Option, None, Some, IsSome, ℤ, pos, negsuc, ◌+ℤ◌, ◌*ℤ◌, ◌≤ℤ◌, ◌<ℤ◌, int_le, refl, sym, ap, subst, ◌∙◌, arith}
use Rattle.std.specs.List.{list_all}
use Rattle.std.specs.Int.RustNames.{unsigned_abs}
use Rattle.std.proofs.Math.IntN.{*ℤ_comm}
use Rattle.std.proofs.Math.Nat.{mul-le-mul_left}
use Rattle.std.proofs.lemmas.Bool.Decides.{nat_tests}
use Rattle.std.proofs.lemmas.Int.{ints, by_lt_z, unsigned_abs-mul}
use Rattle.std.proofs.lemmas.List.Folds.{list_all-append}
use Rattle.sp_model.specs.declared.parts.ModelParts.{ModelParts}
use Rattle.sp_model.specs.Boxes.{Bounds, range_at}
use Rattle.sp_model.specs.Models.{root_of}
use Rattle.sp_model.specs.Rounds.{ceiling_of}
use Rattle.sp_model.specs.Rules.{IsLawful}
use Rattle.sp_model.specs.Sums.{Term, reach, width_over}
use Rattle.sp_sums.specs.Extremes.{term_least}
use Rattle.sp_sums.specs.Ranges.{IsInside, IsPart}
use Rattle.sp_dual.specs.Lists.{MultiplierList, zero_list}
use Rattle.sp_bound.specs.Bounds.{addends, all_variable_numbers, bound_number, bound_of, coefficient_in, fits, least_values, named_numbers, reduced_cost, side_product, sums_from, total, variable_numbers}
use Rattle.sp_bound.specs.Inner.{IsSafe, is_reduced, sizes, spread}
use Rattle.sp_bound.proofs.FactorLemmas.{mul-le, mul-turns, one_times, times_one}
use Rattle.sp_bound.proofs.HeldLemmas.{variable-fits}
use Rattle.sp_bound.proofs.SoundLemmas.{IsCeiling}
use Rattle.sp_bound.proofs.VariableLemmas.{IsNoneAtZero, along, along-same, along-terms, over}

-- ---- magnitudes

below_test : (n k : ℕ) → n < k → nat_lt n k ≡ true
below_test n k h = grind (arith, nat_tests)

pub small_fits : (z : ℤ) → unsigned_abs z ≤ 4 * 10 ^ 36 → fits z ≡ true
small_fits (pos n) h = below_test n (2 ^ 127) (omega (arith, h))
small_fits (negsuc n) h = below_test n (2 ^ 127) (omega (arith, h))

and_both : (p q : Bool) → p ≡ true → q ≡ true → (p && q) ≡ true
and_both true q h k = k
and_both false q h k = absurd (cc)

abs-add : (a b : ℤ) → unsigned_abs (a +ℤ b) ≤ unsigned_abs a + unsigned_abs b
abs-add a b = omega (arith, ints)

each-fit : (vs : List ℤ) → sizes vs ≤ 2 * 10 ^ 36 → list_all fits vs ≡ true
each-fit [] h = refl
each-fit (v ∷ vs) h = and_both (fits v) (list_all fits vs) (small_fits v (omega (arith, h))) (each-fit vs (omega (arith, h)))

sums-fit : (s : ℤ) (vs : List ℤ) → unsigned_abs s + sizes vs ≤ 2 * 10 ^ 36 → list_all fits (sums_from s vs) ≡ true
sums-fit s [] h = refl
sums-fit s (v ∷ vs) h =
    and_both (fits (s +ℤ v)) (list_all fits (sums_from (s +ℤ v) vs)) (small_fits (s +ℤ v) (omega (arith, abs-add s v, h))) (sums-fit (s +ℤ v) vs (omega (arith, abs-add s v, h)))

pub total-size : (vs : List ℤ) → unsigned_abs (total vs) ≤ sizes vs
total-size [] = omega arith
total-size (v ∷ vs) = omega (arith, abs-add v (total vs), total-size vs)

sizes-append : (vs ws : List ℤ) → sizes (vs ++ ws) ≡ sizes vs + sizes ws
sizes-append [] ws = omega arith
sizes-append (v ∷ vs) ws = omega (arith, sizes-append vs ws)

-- ---- least values

within_reach : (q : ℤ × ℤ) (v : ℤ) → q.0 ≤ℤ v → v ≤ℤ q.1 → unsigned_abs v ≤ reach q
within_reach q v h g = omega (arith, ints)

product-size : (c v : ℤ) (n : ℕ) → unsigned_abs v ≤ n → unsigned_abs (c *ℤ v) ≤ unsigned_abs c * n
product-size c v n h = rw unsigned_abs-mul (mul-le-mul_left (unsigned_abs c) h)

chosen-size : (p : Bool) (v w : ℤ) (n : ℕ) → unsigned_abs v ≤ n → unsigned_abs w ≤ n → unsigned_abs (cond p v w) ≤ n
chosen-size true v w n h g = h
chosen-size false v w n h g = g

least-size : (c : ℤ) (q r : ℤ × ℤ) → IsPart q r → unsigned_abs (term_least c r) ≤ unsigned_abs c * reach q
least-size c q r h =
    chosen-size (int_le (pos 0) c) (c *ℤ r.0) (c *ℤ r.1) (unsigned_abs c * reach q)
    (product-size c r.0 (reach q) (within_reach q r.0 h.lower (omega (arith, ints, h.filled, h.upper))))
    (product-size c r.1 (reach q) (within_reach q r.1 (omega (arith, ints, h.filled, h.lower)) h.upper))

pub values-size : (m : ModelParts) (l : MultiplierList) (j : ℕ) (qs rs : Bounds) → length rs ≡ length qs → ((k : ℕ) → k < length qs → IsPart (range_at qs k) (range_at rs k)) → sizes (least_values m l j rs) ≤ spread (reduced_cost m l) j qs
values-size m l j [] [] e h = omega arith
values-size m l j [] (r ∷ rs) e h = absurd (omega (arith, e))
values-size m l j (q ∷ qs) [] e h = absurd (omega (arith, e))
values-size m l j (q ∷ qs) (r ∷ rs) e h =
    omega (arith, least-size (reduced_cost m l j) q r (h 0 (omega arith)), values-size m l (suc j) qs rs (omega (arith, e)) (λ k g. h (suc k) (omega (arith, g))))

variables-fit : (m : ModelParts) (l : MultiplierList) (j : ℕ) (rs : Bounds) → ((k : ℕ) → k < j + length rs → is_reduced m l k ≡ true) → sizes (least_values m l j rs) ≤ 10 ^ 36 → list_all fits (all_variable_numbers m l j rs) ≡ true
variables-fit m l j [] h s = refl
variables-fit m l j (r ∷ rs) h s =
    let here : list_all fits (variable_numbers m l j r) ≡ true = variable-fits m l j r ∙ and_both (is_reduced m l j) (fits (term_least (reduced_cost m l j) r)) (h j (omega arith)) (small_fits (term_least (reduced_cost m l j) r) (omega (arith, s))) in
    let rest : list_all fits (all_variable_numbers m l (suc j) rs) ≡ true = variables-fit m l (suc j) rs (λ k g. h k (omega (arith, g))) (omega (arith, s)) in
    list_all-append fits (variable_numbers m l j r) (all_variable_numbers m l (suc j) rs) ∙ and_both (list_all fits (variable_numbers m l j r)) (list_all fits (all_variable_numbers m l (suc j) rs)) here rest

-- ---- the quotient

-- a sum isn't above its magnitude, nor below its opposite, times a divisor of at least 1
above_all : (s d : ℤ) → pos 1 ≤ℤ d → s ≤ℤ (d *ℤ pos (unsigned_abs s))
above_all s d h =
    let grown : (pos (unsigned_abs s) *ℤ pos 1) ≤ℤ (pos (unsigned_abs s) *ℤ d) = mul-le (pos (unsigned_abs s)) (pos 1) d (omega (arith, ints)) h in
    omega (arith, ints, grown, times_one (pos (unsigned_abs s)), *ℤ_comm (pos (unsigned_abs s)) d)

below_all : (s d : ℤ) → pos 1 ≤ℤ d → (d *ℤ negsuc (unsigned_abs s)) <ℤ s
below_all s d h =
    let turned : (negsuc (unsigned_abs s) *ℤ d) ≤ℤ (negsuc (unsigned_abs s) *ℤ pos 1) = mul-turns (negsuc (unsigned_abs s)) (pos 1) d (omega (arith, ints)) h in
    omega (arith, ints, turned, times_one (negsuc (unsigned_abs s)), *ℤ_comm (negsuc (unsigned_abs s)) d)

ceiling_above : IsCeiling → (s d : ℤ) → pos 1 ≤ℤ d → negsuc (unsigned_abs s) <ℤ ceiling_of s d
ceiling_above c s d h =
    by_lt_z (negsuc (unsigned_abs s)) (ceiling_of s d) (λ l. l) (λ g. absurd (
    let k : s ≤ℤ (d *ℤ negsuc (unsigned_abs s)) = (c.law s d (negsuc (unsigned_abs s)) (omega (arith, ints, h))).1 g in
    omega (arith, ints, k, below_all s d h)
    ))

pub ceiling-size : IsCeiling → (s d : ℤ) → pos 1 ≤ℤ d → unsigned_abs (ceiling_of s d) ≤ unsigned_abs s
ceiling-size c s d h =
    let upper : ceiling_of s d ≤ℤ pos (unsigned_abs s) = (c.law s d (pos (unsigned_abs s)) (omega (arith, ints, h))).0 (above_all s d h) in
    let lower : negsuc (unsigned_abs s) <ℤ ceiling_of s d = ceiling_above c s d h in
    omega (arith, ints, upper, lower)

-- ---- safe lists

-- what is added up, over a box inside the closed one
pub addends-size : (m : ModelParts) (b : Bounds) (l : MultiplierList) → IsInside (root_of m) b → IsSafe m l → sizes (addends m b l) ≤ 10 ^ 36
addends-size m b l inside safe =
    let values = values-size m l 0 (root_of m) b inside.long inside.each in
    let sides : sizes (map (side_product b m.rows) l.y) ≡ sizes (map (side_product (root_of m) m.rows) l.y) = ap sizes (safe.sided b) in
    omega (arith, sizes-append (map (side_product b m.rows) l.y) (least_values m l 0 b), values, sides, safe.small)

four : (p q r s : Bool) → p ≡ true → q ≡ true → r ≡ true → s ≡ true → (p && (q && (r && s))) ≡ true
four p q r s a b c d = and_both p (q && (r && s)) a (and_both q (r && s) b (and_both r s c d))

pub numbers-fit : IsCeiling → (m : ModelParts) (b : Bounds) (l : MultiplierList) → pos 1 ≤ℤ l.d → unsigned_abs m.constant ≤ 10 ^ 36 → IsInside (root_of m) b → IsSafe m l → list_all fits (named_numbers m b l) ≡ true
numbers-fit c m b l positive constant inside safe =
    let sides = map (side_product b m.rows) l.y in
    let vars = all_variable_numbers m l 0 b in
    let sums = sums_from (pos 0) (addends m b l) in
    let last = bound_number m b l ∷ [] in
    let whole : sizes (addends m b l) ≤ 10 ^ 36 = addends-size m b l inside safe in
    let parts : sizes (addends m b l) ≡ sizes sides + sizes (least_values m l 0 b) = sizes-append sides (least_values m l 0 b) in
    let first : list_all fits sides ≡ true = each-fit sides (omega (arith, whole, parts)) in
    let second : list_all fits vars ≡ true = variables-fit m l 0 b (λ k g. safe.reduced k (omega (arith, g, inside.long))) (omega (arith, whole, parts)) in
    let third : list_all fits sums ≡ true = sums-fit (pos 0) (addends m b l) (omega (arith, whole)) in
    let quotient : unsigned_abs (ceiling_of (total (addends m b l)) l.d) ≤ 10 ^ 36 = omega (arith, ceiling-size c (total (addends m b l)) l.d positive, total-size (addends m b l), whole) in
    let end : fits (bound_number m b l) ≡ true = small_fits (bound_number m b l) (omega (arith, abs-add (ceiling_of (total (addends m b l)) l.d) m.constant, quotient, constant)) in
    list_all-append fits sides (vars ++ (sums ++ last))
    ∙ ap (λ (q : Bool). list_all fits sides && q) (list_all-append fits vars (sums ++ last) ∙ ap (λ (q : Bool). list_all fits vars && q) (list_all-append fits sums last))
    ∙ four (list_all fits sides) (list_all fits vars) (list_all fits sums) (list_all fits last) first second third (and_both (fits (bound_number m b l)) true end refl)

pub bound-safe : IsCeiling → (m : ModelParts) (b : Bounds) (l : MultiplierList) → pos 1 ≤ℤ l.d → unsigned_abs m.constant ≤ 10 ^ 36 → IsInside (root_of m) b → IsSafe m l → bound_of m b l ≡ Some (bound_number m b l)
unfolding bound_of
bound-safe c m b l positive constant inside safe = ap (λ (p : Bool). cond p (Some (bound_number m b l)) None) (numbers-fit c m b l positive constant inside safe)

-- ---- the empty list

is_there : (v : ℤ) → IsSome (Some v)
is_there v = refl

-- a number times the reach of a range
abbrev pub reaching : ℤ → ℤ × ℤ → ℤ
reaching a r = pos (unsigned_abs a * reach r)

pub none_reaching : IsNoneAtZero reaching
none_reaching r = ap pos (let e : 0 * reach r ≡ 0 = omega arith in e)

pub spread-along : (c : ℕ → ℤ) (j : ℕ) (rs : Bounds) → pos (spread c j rs) ≡ along reaching c j rs
spread-along c j [] = refl
spread-along c j (r ∷ rs) = ap (λ v. reaching (c j) r +ℤ v) (spread-along c (suc j) rs)

pub width-over : (b : Bounds) (ts : List Term) → pos (width_over b ts) ≡ over reaching (pos 0, pos 0) b ts
width-over b [] = refl
width-over b (t ∷ ts) = ap (λ v. reaching t.1 (range_at b t.0) +ℤ v) (width-over b ts)

spread-zero : (m : ModelParts) → IsLawful m → spread (reduced_cost m zero_list) 0 (root_of m) ≤ 10 ^ 36
spread-zero m lawful =
    let same : pos (spread (reduced_cost m zero_list) 0 (root_of m)) ≡ pos (width_over (root_of m) m.cost) =
    spread-along (reduced_cost m zero_list) 0 (root_of m)
    ∙ along-same reaching (reduced_cost m zero_list) (coefficient_in m.cost) 0 (root_of m) (λ k g. one_times (coefficient_in m.cost k))
    ∙ along-terms reaching none_reaching (pos 0, pos 0) (root_of m) m.cost lawful.objective.terms.known lawful.objective.terms.rising
    ∙ sym (width-over (root_of m) m.cost) in
    omega (arith, ints, same, lawful.objective.narrow)

-- each cost is part of the spread
cost_below : (n k : ℕ) → 1 ≤ k → n ≤ n * k
cost_below n k h = omega (arith, mul-le-mul_left n h)

reach_positive : (r : ℤ × ℤ) → 1 ≤ reach r
reach_positive r = omega arith

pub spread-item : (c : ℕ → ℤ) (j i : ℕ) (rs : Bounds) → i < length rs → unsigned_abs (c (j + i)) ≤ spread c j rs
spread-item c j i [] l = absurd (omega (arith, l))
spread-item c j zero (r ∷ rs) l =
    let same : unsigned_abs (c (j + zero)) ≡ unsigned_abs (c j) = ap (λ k. unsigned_abs (c k)) (omega arith) in
    omega (arith, same, cost_below (unsigned_abs (c j)) (reach r) (reach_positive r))
spread-item c j (suc i) (r ∷ rs) l =
    let same : unsigned_abs (c (j + suc i)) ≡ unsigned_abs (c (suc j + i)) = ap (λ k. unsigned_abs (c k)) (omega arith) in
    omega (arith, same, spread-item c (suc j) i rs (omega (arith, l)))

pub zero_safe : (m : ModelParts) → IsLawful m → IsSafe m zero_list
zero_safe m lawful = record {
  reduced = λ j l. (
      let same : unsigned_abs (reduced_cost m zero_list (0 + j)) ≡ unsigned_abs (reduced_cost m zero_list j) = ap (λ k. unsigned_abs (reduced_cost m zero_list k)) (omega arith) in
      and_both (fits (reduced_cost m zero_list j)) true (small_fits (reduced_cost m zero_list j) (omega (arith, same, spread-item (reduced_cost m zero_list) 0 j (root_of m) l, spread-zero m lawful))) refl
      );
  sided = λ b. refl;
  small = omega (arith, spread-zero m lawful);
}

pub zero_some : IsCeiling → (m : ModelParts) (b : Bounds) → IsLawful m → IsInside (root_of m) b → bound_of m b zero_list ≡ Some (bound_number m b zero_list)
zero_some c m b lawful inside =
    bound-safe c m b zero_list (let one : pos 1 ≤ℤ pos 1 = omega (arith, ints) in one) (omega (arith, lawful.objective.narrow)) inside (zero_safe m lawful)

-- a bound that is that of the empty list is there
pub zero_told : IsCeiling → (m n : ModelParts) (b : Bounds) (l : MultiplierList) (result : Option ℤ) → IsLawful m → IsInside (root_of m) b → result ≡ bound_of m b l → l ≡ zero_list → IsSome result
zero_told c m n b l result lawful inside e z =
    subst IsSome (sym (e ∙ ap (bound_of m b) z ∙ zero_some c m b lawful inside)) (is_there (bound_number m b zero_list))
