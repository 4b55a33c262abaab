-- Kept truths: what they say of the items, and that a change of one range leaves the others.
use Rattle.std.proofs.Common.{◌≡◌, ◌≢◌, ℕ, ◌<◌, Bool, false, List, [], ◌∷◌, length, map, get_or, set, Contains, refl, sym, ap, ap₂, ◌∙◌, arith, ℤ, pos, ◌+ℤ◌, get_or-set_other}
use Rattle.std.proofs.lemmas.List.{length-map, get_or-map}
use Rattle.sp_model.specs.declared.parts.Indicator.{Indicator}
use Rattle.sp_model.specs.declared.parts.Sos.{Sos}
use Rattle.sp_model.specs.Boxes.{Bounds, range_at}
use Rattle.sp_model.specs.Stated.{Core}
use Rattle.sp_model.specs.Sums.{Term}
use Rattle.sp_sums.specs.Extremes.{sum_over, term_least, term_most}
use Rattle.sp_sums.specs.Flags.{IsFirstTrue, IsNoneTrue, flag_at}
use Rattle.sp_activity.specs.Reasons.{bare_indicator, bare_set, lacks_zero}
use Rattle.sp_activity.specs.Stages.{AreCoresOpen, AreGatesOpen, AreSetsOpen, IsFirstCore, IsFirstGate, IsFirstSet, is_core_broken, is_gate_broken, is_set_broken}
use Rattle.sp_activity.specs.Uses.{AreUses, IsSettling, core_vars, gate_vars, set_vars, uses_at}
use Rattle.sp_activity.proofs.UsesLemmas.{Contains-here, Contains-later}

-- ---- what a flag says

flag_is : {X : Type 0} (f : X → Bool) (xs : List X) (d : X) (bits : List Bool) (k : ℕ) → bits ≡ map f xs → k < length xs → flag_at bits k ≡ f (get_or xs k d)
flag_is f xs d bits k e h = ap (λ (bs : List Bool). flag_at bs k) e ∙ get_or-map f xs k d false h

flags_long : {X : Type 0} (f : X → Bool) (xs : List X) (bits : List Bool) → bits ≡ map f xs → length bits ≡ length xs
flags_long f xs bits e = ap length e ∙ length-map xs f

pub gate_flag : (b : Bounds) (is : List Indicator) (bits : List Bool) (k : ℕ) → bits ≡ map (is_gate_broken b) is → IsFirstTrue bits k → IsFirstGate b is k
gate_flag b is bits k e f =
    let long = flags_long (is_gate_broken b) is bits e in
    let known : k < length is = omega (arith, long, f.known) in
    record {
      known = known;
      here = sym (flag_is (is_gate_broken b) is bare_indicator bits k e known) ∙ f.here;
      before = λ i h. sym (flag_is (is_gate_broken b) is bare_indicator bits i e (omega arith)) ∙ f.before i h;
    }

pub gates_open : (b : Bounds) (is : List Indicator) (bits : List Bool) → bits ≡ map (is_gate_broken b) is → IsNoneTrue bits → AreGatesOpen b is
gates_open b is bits e n = record { each = λ k h. sym (flag_is (is_gate_broken b) is bare_indicator bits k e h) ∙ n.each k }

pub set_flag : (b : Bounds) (sets : List Sos) (bits : List Bool) (k : ℕ) → bits ≡ map (is_set_broken b) sets → IsFirstTrue bits k → IsFirstSet b sets k
set_flag b sets bits k e f =
    let long = flags_long (is_set_broken b) sets bits e in
    let known : k < length sets = omega (arith, long, f.known) in
    record {
      known = known;
      here = sym (flag_is (is_set_broken b) sets bare_set bits k e known) ∙ f.here;
      before = λ i h. sym (flag_is (is_set_broken b) sets bare_set bits i e (omega arith)) ∙ f.before i h;
    }

pub sets_open : (b : Bounds) (sets : List Sos) (bits : List Bool) → bits ≡ map (is_set_broken b) sets → IsNoneTrue bits → AreSetsOpen b sets
sets_open b sets bits e n = record { each = λ k h. sym (flag_is (is_set_broken b) sets bare_set bits k e h) ∙ n.each k }

pub core_flag : (b : Bounds) (cores : List Core) (bits : List Bool) (k : ℕ) → bits ≡ map (is_core_broken b) cores → IsFirstTrue bits k → IsFirstCore b cores k
core_flag b cores bits k e f =
    let long = flags_long (is_core_broken b) cores bits e in
    let known : k < length cores = omega (arith, long, f.known) in
    record {
      known = known;
      here = sym (flag_is (is_core_broken b) cores (0, pos 0, pos 0) bits k e known) ∙ f.here;
      before = λ i h. sym (flag_is (is_core_broken b) cores (0, pos 0, pos 0) bits i e (omega arith)) ∙ f.before i h;
    }

pub cores_open : (b : Bounds) (cores : List Core) (bits : List Bool) → bits ≡ map (is_core_broken b) cores → IsNoneTrue bits → AreCoresOpen b cores
cores_open b cores bits e n = record { each = λ k h. sym (flag_is (is_core_broken b) cores (0, pos 0, pos 0) bits k e h) ∙ n.each k }

-- ---- another range of a variable that an item doesn't have

range_kept : (b : Bounds) (j v : ℕ) (q : ℤ × ℤ) → v ≢ j → range_at (set b j q) v ≡ range_at b v
range_kept b j v q n = get_or-set_other b j v q (pos 0, pos 0) n

first_other : (v j : ℕ) (vs : List ℕ) → ¬ Contains (v ∷ vs) j → v ≢ j
first_other v j vs n e = n (Contains-at v j vs e)
  where
    Contains-at : (v j : ℕ) (vs : List ℕ) → v ≡ j → Contains (v ∷ vs) j
    Contains-at v j vs e = rw e (Contains-here j vs)

sum_kept : (f : ℤ → ℤ × ℤ → ℤ) (b : Bounds) (j : ℕ) (q : ℤ × ℤ) (ts : List Term) → ¬ Contains (map (λ (t : Term). t.0) ts) j → sum_over f (set b j q) ts ≡ sum_over f b ts
sum_kept f b j q [] n = refl
sum_kept f b j q (t ∷ ts) n =
    ap₂ (λ (u v : ℤ). u +ℤ v) (ap (f t.1) (range_kept b j t.0 q (first_other t.0 j (map (λ (u : Term). u.0) ts) n)))
    (sum_kept f b j q ts (λ c. n (Contains-later t.0 (map (λ (u : Term). u.0) ts) j c)))

gate_kept : (b : Bounds) (j : ℕ) (q : ℤ × ℤ) (i : Indicator) → ¬ Contains (gate_vars i) j → is_gate_broken (set b j q) i ≡ is_gate_broken b i
gate_kept b j q i n =
    let other = first_other i.var j (map (λ (t : Term). t.0) i.row.terms) n in
    let terms : ¬ Contains (map (λ (t : Term). t.0) i.row.terms) j = λ c. n (Contains-later i.var (map (λ (t : Term). t.0) i.row.terms) j c) in
    rw (range_kept b j i.var q other, sum_kept term_least b j q i.row.terms terms, sum_kept term_most b j q i.row.terms terms) refl

members_kept : (b : Bounds) (j : ℕ) (q : ℤ × ℤ) (vs : List ℕ) → ¬ Contains vs j → map (λ (v : ℕ). lacks_zero (range_at (set b j q) v)) vs ≡ map (λ (v : ℕ). lacks_zero (range_at b v)) vs
members_kept b j q [] n = refl
members_kept b j q (v ∷ vs) n =
    ap₂ (λ (c : Bool) (cs : List Bool). c ∷ cs) (ap lacks_zero (range_kept b j v q (first_other v j vs n))) (members_kept b j q vs (λ c. n (Contains-later v vs j c)))

set_kept : (b : Bounds) (j : ℕ) (q : ℤ × ℤ) (s : Sos) → ¬ Contains (set_vars s) j → is_set_broken (set b j q) s ≡ is_set_broken b s
set_kept b j q s n = rw (members_kept b j q s.vars n) refl

core_kept : (b : Bounds) (j : ℕ) (q : ℤ × ℤ) (c : Core) → ¬ Contains (core_vars c) j → is_core_broken (set b j q) c ≡ is_core_broken b c
core_kept b j q c n = rw (range_kept b j c.0 q (first_other c.0 j [] n)) refl

-- ---- the truths before, where only items of the variable can be others now

pub settling_from : {X : Type 0} (f g : X → Bool) (vars : X → List ℕ) (xs : List X) (d : X) (count j : ℕ) (lists : List (List ℕ)) (bits : List Bool) → ((x : X) → ¬ Contains (vars x) j → g x ≡ f x) → AreUses count (map vars xs) lists → j < count → bits ≡ map f xs → IsSettling (map g xs) (uses_at lists j) bits
settling_from f g vars xs d count j lists bits same u h e = record {
  long = ap length e ∙ length-map xs f ∙ sym (length-map xs g);
  known = λ k x l. omega (arith, u.known j k x l, length-map xs g, length-map xs vars);
  each = λ k l n. (
      let inside : k < length xs = omega (arith, length-map xs g) in
      let among : k < length (map vars xs) = omega (arith, length-map xs vars) in
      let without : ¬ Contains (vars (get_or xs k d)) j = λ c. n (u.covers j k h among (rw (get_or-map vars xs k d [] inside) c)) in
      ap (λ (bs : List Bool). get_or bs k false) e ∙ get_or-map f xs k d false inside ∙ sym (same (get_or xs k d) without) ∙ sym (get_or-map g xs k d false inside)
      );
}

pub settling_gates : (b : Bounds) (j : ℕ) (q : ℤ × ℤ) (is : List Indicator) (count : ℕ) (lists : List (List ℕ)) (bits : List Bool) → AreUses count (map gate_vars is) lists → j < count → bits ≡ map (is_gate_broken b) is → IsSettling (map (is_gate_broken (set b j q)) is) (uses_at lists j) bits
settling_gates b j q is count lists bits u h e = settling_from (is_gate_broken b) (is_gate_broken (set b j q)) gate_vars is bare_indicator count j lists bits (gate_kept b j q) u h e

pub settling_sets : (b : Bounds) (j : ℕ) (q : ℤ × ℤ) (sets : List Sos) (count : ℕ) (lists : List (List ℕ)) (bits : List Bool) → AreUses count (map set_vars sets) lists → j < count → bits ≡ map (is_set_broken b) sets → IsSettling (map (is_set_broken (set b j q)) sets) (uses_at lists j) bits
settling_sets b j q sets count lists bits u h e = settling_from (is_set_broken b) (is_set_broken (set b j q)) set_vars sets bare_set count j lists bits (set_kept b j q) u h e

pub settling_cores : (b : Bounds) (j : ℕ) (q : ℤ × ℤ) (cores : List Core) (count : ℕ) (lists : List (List ℕ)) (bits : List Bool) → AreUses count (map core_vars cores) lists → j < count → bits ≡ map (is_core_broken b) cores → IsSettling (map (is_core_broken (set b j q)) cores) (uses_at lists j) bits
settling_cores b j q cores count lists bits u h e = settling_from (is_core_broken b) (is_core_broken (set b j q)) core_vars cores (0, pos 0, pos 0) count j lists bits (core_kept b j q) u h e
