-- Costs beside the variables: terms one after another change them as each variable's own coefficient does.
use Rattle.std.proofs.Common.{◌≡◌, ◌≢◌, ℕ, suc, ◌+◌, ◌<◌, Bool, true, false, cond, nat_eq, List, [], ◌∷◌, length, get_or, set, Option, None, Some, ℤ, pos, ◌+ℤ◌, ◌-ℤ◌, ◌*ℤ◌, All, AllPairs, refl, sym, ap, subst, ◌∙◌, arith, length-set, get_or-set_same, get_or-set_other}
use Rattle.std.proofs.Math.IntN.{*ℤ-zero}
use Rattle.std.proofs.lemmas.Bool.Decides.{nat_tests}
use Rattle.std.proofs.lemmas.Int.{ints}
use Rattle.sp_model.specs.Boxes.{Bounds}
use Rattle.sp_model.specs.Sums.{Term}
use Rattle.sp_bound.specs.Bounds.{coefficient_in, fits}
use Rattle.sp_bound.specs.Inner.{AreHeld, Changes, IsHeld, cost_at, if_fits, least_value, minus, plus, plus_values}
use Rattle.sp_bound.proofs.VariableLemmas.{no-coefficient}

-- ---- a step

-- 0 changes nothing, and what comes out fits
pub record IsStep (op : Option ℤ → Option ℤ → Option ℤ) : Type 0 where
  pub none : (c : Option ℤ) → IsHeld c → op c (Some (pos 0)) ≡ c
  pub held : (c v : Option ℤ) → IsHeld (op c v)

if_fits_held : (p : Bool) (z : ℤ) → fits z ≡ p → IsHeld (cond p (Some z) None)
if_fits_held true z e = e
if_fits_held false z e = tt

pub held_if_fits : (z : ℤ) → IsHeld (if_fits z)
held_if_fits z = if_fits_held (fits z) z refl

same_held : (z v : ℤ) → z ≡ v → fits v ≡ true → if_fits z ≡ Some v
same_held z v e h = ap if_fits e ∙ ap (λ p. cond p (Some v) None) h

minus_none : (c : Option ℤ) → IsHeld c → minus c (Some (pos 0)) ≡ c
minus_none None h = refl
minus_none (Some z) h = same_held (z -ℤ pos 0) z (omega (arith, ints)) h

plus_none : (c : Option ℤ) → IsHeld c → plus c (Some (pos 0)) ≡ c
plus_none None h = refl
plus_none (Some z) h = same_held (z +ℤ pos 0) z (omega (arith, ints)) h

minus_held : (c v : Option ℤ) → IsHeld (minus c v)
minus_held None v = tt
minus_held (Some z) None = tt
minus_held (Some z) (Some v) = held_if_fits (z -ℤ v)

plus_held : (c v : Option ℤ) → IsHeld (plus c v)
plus_held None v = tt
plus_held (Some z) None = tt
plus_held (Some z) (Some v) = held_if_fits (z +ℤ v)

pub minus_step : IsStep minus
minus_step = record { none = minus_none; held = minus_held }

pub plus_step : IsStep plus
plus_step = record { none = plus_none; held = plus_held }

-- ---- term by term

-- what is left of the terms brings the costs of now to where all of them bring the old ones
pub record IsChanging (op : Option ℤ → Option ℤ → Option ℤ) (factor : ℤ) (ts rest : List Term) (old now : List (Option ℤ)) : Type 0 where
  pub long : length now ≡ length old
  pub held : AreHeld now
  pub known : All (λ (t : Term). t.0 < length old) rest
  pub rising : AllPairs (λ (t : Term) (u : Term). t.0 < u.0) rest
  pub each : (j : ℕ) → j < length old → op (cost_at now j) (if_fits (factor *ℤ coefficient_in rest j)) ≡ op (cost_at old j) (if_fits (factor *ℤ coefficient_in ts j))

pub changing_start : (op : Option ℤ → Option ℤ → Option ℤ) (factor : ℤ) (ts : List Term) (old : List (Option ℤ)) → All (λ (t : Term). t.0 < length old) ts → AllPairs (λ (t : Term) (u : Term). t.0 < u.0) ts → AreHeld old → IsChanging op factor ts ts old old
changing_start op factor ts old known rising held = record { long = refl; held = held; known = known; rising = rising; each = λ j l. refl }

-- a term that isn't there
no_part : (factor : ℤ) (c : ℤ) → c ≡ pos 0 → if_fits (factor *ℤ c) ≡ Some (pos 0)
no_part factor c e = ap (λ v. if_fits (factor *ℤ v)) e ∙ ap if_fits (*ℤ-zero factor)

-- all costs keep what the new one keeps
set_held : (now : List (Option ℤ)) (j : ℕ) (c : Option ℤ) → AreHeld now → j < length now → IsHeld c → AreHeld (set now j c)
set_held now j c held h new k d l = by_case (nat_eq k j) refl
  where
    by_case : (b : Bool) → nat_eq k j ≡ b → IsHeld (get_or (set now j c) k d)
    by_case true e = (let same : k ≡ j = grind (arith, nat_tests) in rw same (rw (get_or-set_same now j c d h) new))
    by_case false e = (let other : k ≢ j = grind (arith, nat_tests) in rw (get_or-set_other now j k c d other) (held k d (omega (arith, l, length-set now j c))))

turn_case : (op : Option ℤ → Option ℤ → Option ℤ) → IsStep op → (factor : ℤ) (t : Term) (rest : List Term) (now : List (Option ℤ)) (j : ℕ) (b : Bool) → nat_eq t.0 j ≡ b → t.0 < length now → coefficient_in rest t.0 ≡ pos 0 → op (cost_at (set now t.0 (op (cost_at now t.0) (if_fits (factor *ℤ t.1)))) j) (if_fits (factor *ℤ coefficient_in rest j)) ≡ op (cost_at now j) (if_fits (factor *ℤ cond b t.1 (coefficient_in rest j)))
turn_case op s factor t rest now j true e h none =
    let same : t.0 ≡ j = grind (arith, nat_tests) in
    let new : cost_at (set now t.0 (op (cost_at now t.0) (if_fits (factor *ℤ t.1)))) j ≡ op (cost_at now t.0) (if_fits (factor *ℤ t.1)) = ap (λ k. cost_at (set now t.0 (op (cost_at now t.0) (if_fits (factor *ℤ t.1)))) k) (sym same) ∙ get_or-set_same now t.0 (op (cost_at now t.0) (if_fits (factor *ℤ t.1))) None h in
    let gone : if_fits (factor *ℤ coefficient_in rest j) ≡ Some (pos 0) = no_part factor (coefficient_in rest j) (ap (coefficient_in rest) (sym same) ∙ none) in
    ap (λ v. op (cost_at (set now t.0 (op (cost_at now t.0) (if_fits (factor *ℤ t.1)))) j) v) gone
    ∙ ap (λ c. op c (Some (pos 0))) new
    ∙ s.none (op (cost_at now t.0) (if_fits (factor *ℤ t.1))) (s.held (cost_at now t.0) (if_fits (factor *ℤ t.1)))
    ∙ ap (λ k. op (cost_at now k) (if_fits (factor *ℤ t.1))) same
turn_case op s factor t rest now j false e h none =
    let other : j ≢ t.0 = grind (arith, nat_tests) in
    ap (λ c. op c (if_fits (factor *ℤ coefficient_in rest j))) (get_or-set_other now t.0 j (op (cost_at now t.0) (if_fits (factor *ℤ t.1))) None other)

pub changing_turn : (op : Option ℤ → Option ℤ → Option ℤ) → IsStep op → (factor : ℤ) (ts : List Term) (t : Term) (rest : List Term) (old now new : List (Option ℤ)) → new ≡ set now t.0 (op (cost_at now t.0) (if_fits (factor *ℤ t.1))) → IsChanging op factor ts (t ∷ rest) old now → IsChanging op factor ts rest old new
changing_turn op s factor ts t rest old now new e p =
    let below : t.0 < length now = omega (arith, p.known 0 t (omega arith), p.long) in
    let none : coefficient_in rest t.0 ≡ pos 0 = no-coefficient t.0 rest (λ k d l. p.rising 0 (suc k) d (omega arith) (omega (arith, l))) in
    subst (IsChanging op factor ts rest old) (sym e) (record {
      long = length-set now t.0 (op (cost_at now t.0) (if_fits (factor *ℤ t.1))) ∙ p.long;
      held = set_held now t.0 (op (cost_at now t.0) (if_fits (factor *ℤ t.1))) p.held below (s.held (cost_at now t.0) (if_fits (factor *ℤ t.1)));
      known = λ k d l. p.known (suc k) d (omega (arith, l));
      rising = λ i k d l g. p.rising (suc i) (suc k) d (omega (arith, l)) (omega (arith, g));
      each = λ j l. turn_case op s factor t rest now j (nat_eq t.0 j) refl below none ∙ p.each j l;
    })

pub changing_stop : (op : Option ℤ → Option ℤ → Option ℤ) → IsStep op → (factor : ℤ) (ts : List Term) (old now : List (Option ℤ)) → IsChanging op factor ts [] old now → Changes op factor ts old now
changing_stop op s factor ts old now p = record {
  long = p.long;
  held = p.held;
  each = λ j l. sym (s.none (cost_at now j) (p.held j None (omega (arith, l, p.long)))) ∙ ap (λ v. op (cost_at now j) v) (sym (no_part factor (pos 0) refl)) ∙ p.each j l;
}

-- ---- values of equal costs

pub values-same : (f g : ℕ → Option ℤ) (j : ℕ) (s : Option ℤ) (rs : Bounds) → ((k : ℕ) → k < j + length rs → f k ≡ g k) → plus_values f j s rs ≡ plus_values g j s rs
values-same f g j s [] h = refl
values-same f g j s (r ∷ rs) h =
    ap (λ (c : Option ℤ). plus_values f (suc j) (plus s (least_value c r)) rs) (h j (omega arith))
    ∙ values-same f g (suc j) (plus s (least_value (g j) r)) rs (λ k l. h k (omega (arith, l)))
