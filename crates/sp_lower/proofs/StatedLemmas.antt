-- The bounds and the cores of variables that aren't refused keep a model's rules.
use Rattle.std.proofs.Common.{◌≡◌, ℕ, suc, ◌+◌, ◌<◌, ◌≤◌, Bool, true, false, ◌&&◌, List, [], ◌∷◌, length, map, refl, ap, ◌∙◌, sym, subst, arith, inl, inr, All, AllPairs, Option, None, Some, ℤ, pos}
use Rattle.std.specs.Prelude.{if◌then◌else◌, unsigned_abs, option_map, int_le, is_some}
use Rattle.std.specs.Int.{int_min, int_max}
use Rattle.std.specs.List.{zip}
use Rattle.std.proofs.lemmas.Bool.{cases_Bool, leb-true}
use Rattle.std.proofs.lemmas.Int.{ints, clamps}
use Rattle.std.proofs.lemmas.List.{length-map}
use Rattle.std.proofs.lemmas.List.Elements.{All-nil, All-cons, All-head, All-tail}
use Rattle.std.proofs.lemmas.List.Kept.{AllPairs-cons}
use Rattle.std.proofs.lemmas.Slice.Zip.{length-zip}
use Rattle.sp_model.specs.declared.parts.ModelParts.{ModelParts}
use Rattle.sp_model.specs.Models.{root_of}
use Rattle.sp_model.specs.Rounds.{rounded, closed}
use Rattle.sp_model.specs.Rules.{IsRangeLawful, IsMissingOr, IsCoreLawful, AreBoundsLawful, HasClosedBox}
use Rattle.sp_model.specs.Stated.{Core, OpenRange, OpenBounds, IsClosedRange, open_at, stated_of, widened}
use Rattle.sp_model.specs.Sums.{side_width}
use Rattle.sp_draft.specs.declared.drafts.Draft.{Draft}
use Rattle.sp_draft.specs.declared.drafts.DraftVar.{DraftVar}
use Rattle.sp_draft.specs.declared.drafts.VarKind.{VarKind}
use Rattle.sp_draft.specs.declared.drafts.VarKind.TheVariants.{Continuous, Integer, Binary}
use Rattle.sp_lower.specs.Bounds.{farthest_bound, whole_lower, whole_upper, kept_lower, kept_upper, least_of, greatest_of, is_near, has_far_bound}
use Rattle.sp_lower.specs.Faults.{first_fault}
use Rattle.sp_lower.specs.InnerLowering.{early_fault}
use Rattle.sp_lower.specs.Lowering.{outline, box_of, open_fault}
use Rattle.sp_lower.specs.Variables.{core_between, core_of, stated_lower, stated_upper, cores_from}
use Rattle.sp_lower.proofs.LengthLemmas.{length_rounded}
use Rattle.sp_lower.proofs.PassedLemmas.{not_false, wide_none, all_from_none, near_variables, early_few}

and_parts : (a b : Bool) → (a && b) ≡ true → (a ≡ true) × (b ≡ true)
and_parts true b h = (refl, h)
and_parts false b h = cc

-- ---- numbers of at most 10^15

near_width : (o : Option ℤ) → is_near o ≡ true → side_width o ≤ farthest_bound
near_width None h = omega arith
near_width (Some z) h = leb-true (unsigned_abs z) farthest_bound h

max_small : (z : ℤ) (n : ℕ) → unsigned_abs z ≤ n → unsigned_abs (int_max (pos 0) z) ≤ n
max_small z n h = omega (arith, ints, clamps)

min_small : (z : ℤ) (n : ℕ) → unsigned_abs z ≤ n → unsigned_abs (int_min (pos 0) z) ≤ n
min_small z n h = omega (arith, ints, clamps)

min_one_small : (z : ℤ) (n : ℕ) → unsigned_abs z ≤ n → 1 ≤ n → unsigned_abs (int_min (pos 1) z) ≤ n
min_one_small z n h k = omega (arith, ints, clamps)

near_lower : (kind : VarKind) (o : Option ℤ) → is_near o ≡ true → side_width (kept_lower kind o) ≤ farthest_bound
near_lower Binary None h = omega arith
near_lower Binary (Some z) h = max_small z farthest_bound (near_width (Some z) h)
near_lower Integer o h = near_width o h
near_lower Continuous o h = near_width o h

near_upper : (kind : VarKind) (o : Option ℤ) → is_near o ≡ true → side_width (kept_upper kind o) ≤ farthest_bound
near_upper Binary None h = omega arith
near_upper Binary (Some z) h = min_one_small z farthest_bound (near_width (Some z) h) (omega arith)
near_upper Integer o h = near_width o h
near_upper Continuous o h = near_width o h

near_both : (v : DraftVar) → has_far_bound v ≡ false → (is_near (whole_lower v.lower) ≡ true) × (is_near (whole_upper v.upper) ≡ true)
near_both v h = and_parts (is_near (whole_lower v.lower)) (is_near (whole_upper v.upper)) (not_false _ h)

least_small : (v : DraftVar) → has_far_bound v ≡ false → side_width (least_of v) ≤ farthest_bound
least_small v h = near_lower v.kind (whole_lower v.lower) (near_both v h).0

greatest_small : (v : DraftVar) → has_far_bound v ≡ false → side_width (greatest_of v) ≤ farthest_bound
greatest_small v h = near_upper v.kind (whole_upper v.upper) (near_both v h).1

core_small : (l u : Option ℤ) (n : ℕ) → side_width l ≤ n → side_width u ≤ n → (unsigned_abs (core_between l u).0 ≤ n) × (unsigned_abs (core_between l u).1 ≤ n)
core_small (Some l) (Some u) n h k = (h, k)
core_small (Some l) None n h k = (h, h)
core_small None (Some u) n h k = (k, k)
core_small None None n h k = (omega arith, omega arith)

-- a core over numbers of at most 10^15
own_core : (j : ℕ) (v : DraftVar) → has_far_bound v ≡ false → (unsigned_abs (core_of j v).1 ≤ farthest_bound) × (unsigned_abs (core_of j v).2 ≤ farthest_bound)
own_core j v h = core_small (least_of v) (greatest_of v) farthest_bound (least_small v h) (greatest_small v h)

widened_small : (c : Core) (n : ℕ) → unsigned_abs c.1 ≤ n → unsigned_abs c.2 ≤ n → (unsigned_abs (widened c).0 ≤ n) × (unsigned_abs (widened c).1 ≤ n)
widened_small c n h k =
    elim (cases_Bool (int_le c.1 c.2)) [
      | inl t ↦ rw t (min_small c.1 n h, max_small c.2 n k)
      | inr f ↦ rw f (omega arith, omega arith)
    ]

option_small : (o : Option ℤ) (z : ℤ) (n : ℕ) → unsigned_abs z ≤ n → side_width (option_map (λ l. z) o) ≤ n
option_small None z n h = omega arith
option_small (Some l) z n h = h

choice_small : (b : Bool) (o p : Option ℤ) (n : ℕ) → side_width o ≤ n → side_width p ≤ n → side_width (if b then o else p) ≤ n
choice_small true o p n h k = h
choice_small false o p n h k = k

range_lawful : (v : DraftVar) → has_far_bound v ≡ false → IsRangeLawful (stated_lower v, stated_upper v)
range_lawful v h =
    let core = own_core 0 v h in
    let wide = widened_small (core_of 0 v) farthest_bound core.0 core.1 in
    record {
      least = choice_small v.semi (option_map (λ l. (widened (core_of 0 v)).0) (least_of v)) (least_of v) farthest_bound
          (option_small (least_of v) (widened (core_of 0 v)).0 farthest_bound wide.0) (least_small v h);
      greatest = choice_small v.semi (option_map (λ u. (widened (core_of 0 v)).1) (greatest_of v)) (greatest_of v) farthest_bound
          (option_small (greatest_of v) (widened (core_of 0 v)).1 farthest_bound wide.1) (greatest_small v h);
    }

-- ---- the stated bounds

-- the bounds that a model states of variables
stated_ranges : List DraftVar → OpenBounds
stated_ranges vs = zip (map stated_lower vs) (map stated_upper vs)

ranges_lawful : (vs : List DraftVar) → All (λ v. has_far_bound v ≡ false) vs → All IsRangeLawful (stated_ranges vs)
unfolding stated_ranges
ranges_lawful [] h = All-nil _
ranges_lawful (v ∷ vs) h =
    All-cons IsRangeLawful (stated_lower v, stated_upper v) (zip (map stated_lower vs) (map stated_upper vs))
    (range_lawful v (All-head (λ (w : DraftVar). has_far_bound w ≡ false) v vs h))
    (ranges_lawful vs (All-tail (λ (w : DraftVar). has_far_bound w ≡ false) v vs h))

ranges_long : (vs : List DraftVar) → length (stated_ranges vs) ≡ length vs
unfolding stated_ranges
ranges_long vs = omega (arith, length-zip (map stated_lower vs) (map stated_upper vs), length-map vs stated_lower, length-map vs stated_upper)

-- ---- the cores

all_choice : (P : Core → Type 0) (b : Bool) (xs ys : List Core) → All P xs → All P ys → All P (if b then xs else ys)
all_choice P true xs ys h k = h
all_choice P false xs ys h k = k

pairs_choice : (R : Core → Core → Type 0) (b : Bool) (xs ys : List Core) → AllPairs R xs → AllPairs R ys → AllPairs R (if b then xs else ys)
pairs_choice R true xs ys h k = h
pairs_choice R false xs ys h k = k

-- the cores from a place on are of variables behind an earlier one
cores_past : (k j : ℕ) (vs : List DraftVar) → k < j → All (λ c. k < c.0) (cores_from j vs)
cores_past k j [] h = All-nil _
cores_past k j (v ∷ vs) h =
    let rest = cores_past k (suc j) vs (omega arith) in
    all_choice (λ (c : Core). k < c.0) v.semi (core_of j v ∷ cores_from (suc j) vs) (cores_from (suc j) vs)
    (All-cons (λ (c : Core). k < c.0) (core_of j v) (cores_from (suc j) vs) h rest) rest

cores_rise : (j : ℕ) (vs : List DraftVar) → AllPairs (λ c d. c.0 < d.0) (cores_from j vs)
cores_rise j [] = λ i k d l m. absurd (omega arith)
cores_rise j (v ∷ vs) =
    let rest = cores_rise (suc j) vs in
    pairs_choice (λ (c : Core) (d : Core). c.0 < d.0) v.semi (core_of j v ∷ cores_from (suc j) vs) (cores_from (suc j) vs)
    (AllPairs-cons (λ (c : Core) (d : Core). c.0 < d.0) (core_of j v) (cores_from (suc j) vs) (cores_past j (suc j) vs (omega arith)) rest) rest

missing_or : (o : Option ℤ) (z : ℤ) → IsMissingOr z (option_map (λ l. z) o)
missing_or None z = tt
missing_or (Some l) z = refl

-- the core of a semi-integer variable over the bounds that are stated of it
core_lawful : (b : OpenBounds) (j : ℕ) (v : DraftVar) → j < length b → open_at b j ≡ (stated_lower v, stated_upper v) → has_far_bound v ≡ false → v.semi ≡ true
    → IsCoreLawful b (core_of j v)
core_lawful b j v known e h semi =
    let core = own_core j v h in
    let low : stated_lower v ≡ option_map (λ l. (widened (core_of j v)).0) (least_of v) = rw semi refl in
    let high : stated_upper v ≡ option_map (λ u. (widened (core_of j v)).1) (greatest_of v) = rw semi refl in
    record {
      known = known;
      least = core.0;
      greatest = core.1;
      lower = subst (IsMissingOr (widened (core_of j v)).0) (sym (ap (λ (r : OpenRange). r.0) e ∙ low)) (missing_or (least_of v) (widened (core_of j v)).0);
      upper = subst (IsMissingOr (widened (core_of j v)).1) (sym (ap (λ (r : OpenRange). r.1) e ∙ high)) (missing_or (greatest_of v) (widened (core_of j v)).1);
    }

-- a core, or none, before the others
core_then : (b : OpenBounds) (semi : Bool) (c : Core) (cs : List Core) → (semi ≡ true → IsCoreLawful b c) → All (IsCoreLawful b) cs → All (IsCoreLawful b) (if semi then c ∷ cs else cs)
core_then b true c cs h k = All-cons (IsCoreLawful b) c cs (h refl) k
core_then b false c cs h k = k

cores_lawful : (b : OpenBounds) (j : ℕ) (vs : List DraftVar) → length b ≡ j + length vs → ((k : ℕ) → k < length vs → open_at b (j + k) ≡ open_at (stated_ranges vs) k)
    → All (λ v. has_far_bound v ≡ false) vs → All (IsCoreLawful b) (cores_from j vs)
unfolding stated_ranges
cores_lawful b j [] long same h = All-nil _
cores_lawful b j (v ∷ vs) long same h =
    let here : open_at b j ≡ (stated_lower v, stated_upper v) = (let e : j ≡ j + 0 = omega arith in ap (open_at b) e ∙ same 0 (omega arith)) in
    let rest = cores_lawful b (suc j) vs (omega arith) (λ k l. let e : suc j + k ≡ j + suc k = omega arith in ap (open_at b) e ∙ same (suc k) (omega arith))
    (All-tail (λ (w : DraftVar). has_far_bound w ≡ false) v vs h) in
    core_then b v.semi (core_of j v) (cores_from (suc j) vs)
    (core_lawful b j v (omega arith) here (All-head (λ (w : DraftVar). has_far_bound w ≡ false) v vs h)) rest

-- ---- the box

stated_same : (d : Draft) → stated_ranges d.vars ≡ stated_of (outline d)
unfolding stated_ranges
stated_same d = refl

-- the stated bounds of a draft whose counts and variables aren't refused
pub bounds_lawful : (d : Draft) → early_fault d ≡ None → AreBoundsLawful (outline d)
bounds_lawful d h =
    let few = early_few d h in
    let near = near_variables d h in
    let same = stated_same d in
    record {
      variables = record {
        few = omega (arith, length-map d.vars stated_lower, few.vars);
        paired = length-map d.vars stated_upper ∙ sym (length-map d.vars stated_lower);
      };
      bounds = subst (All IsRangeLawful) same (ranges_lawful d.vars near);
      cores = record {
        rising = cores_rise 0 d.vars;
        each = cores_lawful (stated_of (outline d)) 0 d.vars (omega (arith, ranges_long d.vars, ap length same)) (λ k l. let e : 0 + k ≡ k = omega arith in ap (open_at (stated_of (outline d))) e ∙ ap (λ b. open_at b k) (sym same)) near;
      };
    }

closed_range : (k : ℕ) (r : OpenRange) → open_fault k r ≡ None → IsClosedRange r
closed_range k r h = let both = and_parts (is_some r.0) (is_some r.1) (wide_none _ _ h) in record { lower = both.0; upper = both.1 }

-- and its box, where no variable stays open
pub box_closed : (d : Draft) → early_fault d ≡ None → first_fault open_fault 0 (rounded (outline d)) ≡ None → HasClosedBox (outline d)
box_closed d h none = record { bounds = bounds_lawful d h; closed = all_from_none open_fault IsClosedRange closed_range 0 (rounded (outline d)) none }

root_rounded : (m : ModelParts) → root_of m ≡ map closed (rounded m)
unfolding root_of
root_rounded m = refl

-- the closed box has a range for each variable
pub box_long : (d : Draft) → length (box_of d) ≡ length d.vars
box_long d =
    ap length (root_rounded (outline d)) ∙ (length-map (rounded (outline d)) closed ∙ (length_rounded (outline d) ∙ (ap length (sym (stated_same d)) ∙ ranges_long d.vars)))
