-- Two truths of a list that stand apart: the test finds them, and nothing else.
use Rattle.std.proofs.Common.{◌≡◌, ◌⊎◌, inl, inr, ℕ, zero, suc, ◌+◌, ◌-◌, ◌<◌, ◌≤◌, Bool, true, false, ◌&&◌, ◌||◌, List, [], ◌∷◌, length, map, drop, get_or, refl, sym, ◌∙◌, arith, not-suc-le-zero}
use Rattle.std.specs.List.{list_any}
use Rattle.std.proofs.lemmas.Bool.{cases_lt}
use Rattle.std.proofs.lemmas.List.{length-map, get_or-map}
use Rattle.sp_model.specs.declared.parts.Sos.{Sos}
use Rattle.sp_model.specs.declared.parts.SosKind.{SosKind}
use Rattle.sp_model.specs.declared.parts.SosKind.TheVariants.{One, Two}
use Rattle.sp_model.specs.Boxes.{Bounds, range_at}
use Rattle.sp_activity.specs.Reasons.{IsClash, clash_distance, lacks_zero, member_range}
use Rattle.sp_activity.specs.Stages.{IsFirstClash, IsFirstNonzero, IsNoneNonzero, has_pair, is_set_broken}

or_left : (a b : Bool) → a ≡ true → a || b ≡ true
or_left a b e = rw e refl

or_right : (a b : Bool) → b ≡ true → a || b ≡ true
or_right true b e = refl
or_right false b e = e

-- any of what is left
any_at : (fs : List Bool) (n q : ℕ) → n ≤ q → q < length fs → get_or fs q false ≡ true → list_any (λ g. g) (drop n fs) ≡ true
any_at [] n q l h e = absurd (not-suc-le-zero h)
any_at (f ∷ fs) zero zero l h e = rw e refl
any_at (f ∷ fs) zero (suc q) l h e = or_right f (list_any (λ g. g) fs) (any_at fs 0 q (omega arith) (omega arith) e)
any_at (f ∷ fs) (suc n) zero l h e = absurd (omega arith)
any_at (f ∷ fs) (suc n) (suc q) l h e = any_at fs n q (omega arith) (omega arith) e

pub pair_found : (d : ℕ) (fs : List Bool) (p q : ℕ) → 0 < d → p + d ≤ q → q < length fs → get_or fs p false ≡ true → get_or fs q false ≡ true → has_pair d fs ≡ true
pair_found d [] p q o a h e g = absurd (not-suc-le-zero h)
pair_found d (f ∷ fs) zero zero o a h e g = absurd (omega arith)
pair_found d (f ∷ fs) zero (suc q) o a h e g =
    let any : list_any (λ g. g) (drop (d - 1) fs) ≡ true = any_at fs (d - 1) q (omega arith) (omega arith) g in
    or_left (f && list_any (λ g. g) (drop (d - 1) fs)) (has_pair d fs) (rw (e, any) refl)
pair_found d (f ∷ fs) (suc p) zero o a h e g = absurd (omega arith)
pair_found d (f ∷ fs) (suc p) (suc q) o a h e g =
    or_right (f && list_any (λ g. g) (drop (d - 1) fs)) (has_pair d fs) (pair_found d fs p q o (omega arith) (omega arith) e g)

positive : (k : SosKind) → 0 < clash_distance k
positive One = omega arith
positive Two = omega arith

pub clash_breaks : (b : Bounds) (set : Sos) (p q : ℕ) → IsClash b set p q → is_set_broken b set ≡ true
clash_breaks b set p q h =
    let f = λ (v : ℕ). lacks_zero (range_at b v) in
    let long = length-map set.vars f in
    let p_known : p < length set.vars = omega (arith, h.known, h.apart) in
    pair_found (clash_distance set.kind) (map f set.vars) p q (positive set.kind) h.apart (omega (arith, long, h.known))
    (get_or-map f set.vars p 0 false p_known ∙ h.first)
    (get_or-map f set.vars q 0 false h.known ∙ h.second)

-- ---- what the test finds

record IsFrom (fs : List Bool) (n q : ℕ) : Type 0 where
  from : n ≤ q
  known : q < length fs
  here : get_or fs q false ≡ true

or_parts : (a b : Bool) → a || b ≡ true → (a ≡ true) ⊎ (b ≡ true)
or_parts true b e = inl refl
or_parts false b e = inr e

and_parts : (a b : Bool) → a && b ≡ true → (a ≡ true) × (b ≡ true)
and_parts true b e = (refl, e)
and_parts false b e = cc

any_parts : (fs : List Bool) (n : ℕ) → list_any (λ g. g) (drop n fs) ≡ true → (q : ℕ) × IsFrom fs n q
any_parts [] zero e = cc
any_parts [] (suc n) e = cc
any_parts (f ∷ fs) zero e = elim (or_parts f (list_any (λ g. g) fs) e) [
  | inl h ↦ (0, record { from = omega arith; known = omega arith; here = h })
  | inr h ↦ (let r = any_parts fs 0 h in (suc r.0, record { from = omega arith; known = omega (arith, r.1.known); here = r.1.here }))
]
any_parts (f ∷ fs) (suc n) e =
    let r = any_parts fs n e in
    (suc r.0, record { from = omega (arith, r.1.from); known = omega (arith, r.1.known); here = r.1.here })

record IsPair (d : ℕ) (fs : List Bool) (p q : ℕ) : Type 0 where
  apart : p + d ≤ q
  known : q < length fs
  first : get_or fs p false ≡ true
  second : get_or fs q false ≡ true

pair_parts : (d : ℕ) (fs : List Bool) → 0 < d → has_pair d fs ≡ true → (p : ℕ) × (q : ℕ) × IsPair d fs p q
pair_parts d [] o e = cc
pair_parts d (f ∷ fs) o e = elim (or_parts (f && list_any (λ g. g) (drop (d - 1) fs)) (has_pair d fs) e) [
  | inl h ↦ (
      let two = and_parts f (list_any (λ g. g) (drop (d - 1) fs)) h in
      let r = any_parts fs (d - 1) two.1 in
      (0, suc r.0, record { apart = omega (arith, r.1.from); known = omega (arith, r.1.known); first = two.0; second = r.1.here })
      )
  | inr h ↦ (
      let r = pair_parts d fs o h in
      (suc r.0, suc r.1, record { apart = omega (arith, r.2.apart); known = omega (arith, r.2.known); first = r.2.first; second = r.2.second })
      )
]

-- a broken set has a clash
pub breaks_by_clash : (b : Bounds) (set : Sos) → is_set_broken b set ≡ true → (p : ℕ) × (q : ℕ) × IsClash b set p q
breaks_by_clash b set e =
    let f = λ (v : ℕ). lacks_zero (range_at b v) in
    let long = length-map set.vars f in
    let r = pair_parts (clash_distance set.kind) (map f set.vars) (positive set.kind) e in
    let q_known : r.1 < length set.vars = omega (arith, long, r.2.known) in
    let p_known : r.0 < length set.vars = omega (arith, r.2.apart) in (
      r.0,
      r.1,
      record {
        known = q_known;
        apart = r.2.apart;
        first = sym (get_or-map f set.vars r.0 0 false p_known) ∙ r.2.first;
        second = sym (get_or-map f set.vars r.1 0 false q_known) ∙ r.2.second;
      },
    )

false_from : (c : Bool) → (c ≡ true → ⊥) → c ≡ false
false_from true f = absurd (f refl)
false_from false f = refl

true_false : (c : Bool) → c ≡ true → c ≡ false → ⊥
true_false c e f = let g : true ≡ false = sym e ∙ f in cc

-- ---- what the search for two places finds

pub none_open : (b : Bounds) (set : Sos) (vars : List ℕ) → vars ≡ set.vars → IsNoneNonzero b vars 0 → is_set_broken b set ≡ false
none_open b set vars s n = false_from (is_set_broken b set) (λ e. (
    let r = breaks_by_clash b set e in
    let none : IsNoneNonzero b set.vars 0 = rw s at n in
    true_false (lacks_zero (member_range b set r.1)) r.2.second (none.each r.1 (omega arith) r.2.known)
    ))

pub one_open : (b : Bounds) (set : Sos) (vars : List ℕ) (p start : ℕ) → vars ≡ set.vars → start ≡ p + clash_distance set.kind → IsFirstNonzero b vars 0 p → IsNoneNonzero b vars start → is_set_broken b set ≡ false
one_open b set vars p start s d f n = false_from (is_set_broken b set) (λ e. (
    let r = breaks_by_clash b set e in
    let none : IsNoneNonzero b set.vars start = rw s at n in
    let one : IsFirstNonzero b set.vars 0 p = rw s at f in
    elim (cases_lt r.0 p) [
      | inl l ↦ true_false (lacks_zero (member_range b set r.0)) r.2.first (one.before r.0 (omega arith) l)
      | inr l ↦ (let apart = r.2.apart in true_false (lacks_zero (member_range b set r.1)) r.2.second (none.each r.1 (omega arith) r.2.known))
    ]
    ))

pub first_pair : (b : Bounds) (set : Sos) (vars : List ℕ) (p q start : ℕ) → vars ≡ set.vars → start ≡ p + clash_distance set.kind → IsFirstNonzero b vars 0 p → IsFirstNonzero b vars start q → IsFirstClash b set p q
first_pair b set vars p q start s d f g =
    let one : IsFirstNonzero b set.vars 0 p = rw s at f in
    let two : IsFirstNonzero b set.vars start q = rw s at g in
    record {
      here = record { known = two.known; apart = omega (arith, two.from); first = one.here; second = two.here };
      before = λ i j l h. elim l [
        | inl u ↦ true_false (lacks_zero (member_range b set i)) h.first (one.before i (omega arith) u)
        | inr u ↦ (let apart = h.apart in true_false (lacks_zero (member_range b set j)) h.second (two.before j (omega (arith, u.0)) u.1))
      ];
    }
