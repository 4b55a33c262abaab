-- What lowering gives keeps the rules of a model.
use Rattle.std.proofs.Common.{◌≡◌, ℕ, ◌+◌, ◌<◌, ◌≤◌, Bool, true, false, not, ◌&&◌, List, [], ◌∷◌, length, map, refl, ap, subst, ◌∙◌, sym, arith, inl, inr, All, None, ℤ, pos}
use Rattle.std.specs.Prelude.{unsigned_abs, int_le, int_lt, ◌≤ℤ◌}
use Rattle.std.proofs.lemmas.Bool.{cases_Bool, leb-true}
use Rattle.std.proofs.lemmas.Int.{ints}
use Rattle.std.proofs.lemmas.List.{length-map}
use Rattle.std.proofs.lemmas.List.Elements.{All-nil, All-cons, All-head, All-tail}
use Rattle.sp_model.specs.declared.parts.ModelParts.{ModelParts}
use Rattle.sp_model.specs.declared.parts.Row.{Row}
use Rattle.sp_model.specs.Boxes.{Bounds, range_at}
use Rattle.sp_model.specs.Limits.{most_rounds}
use Rattle.sp_model.specs.Models.{root_of}
use Rattle.sp_model.specs.Rounds.{rounds, rounded, closed}
use Rattle.sp_model.specs.Rules.{AreTermsLawful, HasClosedBox, IsObjectiveLawful, IsRowLawful, IsBinary, IsIndicatorLawful, IsSetLawful, IsLawful}
use Rattle.sp_model.specs.Stated.{IsClosedRange, is_semi, stated_of}
use Rattle.sp_model.specs.Sums.{Term, width_over}
use Rattle.sp_draft.specs.Drafts.{AreKnown, IsKnownIndicator, IsWellFormed}
use Rattle.sp_draft.specs.declared.drafts.Draft.{Draft}
use Rattle.sp_draft.specs.declared.drafts.DraftRow.{DraftRow}
use Rattle.sp_draft.specs.declared.drafts.DraftIndicator.{DraftIndicator}
use Rattle.sp_draft.specs.declared.drafts.DraftSos.{DraftSos}
use Rattle.sp_scaling.specs.Scaling.{WrittenTerm, greatest_width, scaled, collected, total, sizes, turned, turned_terms, units}
use Rattle.sp_lower.specs.Faults.{first_fault, row_fault, is_binary, indicator_fault, objective_fault, set_fault}
use Rattle.sp_lower.specs.InnerLowering.{early_fault, box_fault, boxed_fault, late_fault}
use Rattle.sp_lower.specs.Lowering.{outline, box_of, open_fault, model_indicator, refusal_of, model_of}
use Rattle.sp_lower.specs.Objectives.{objective_places, cost_terms, whole_constants, objective_width, is_wide_objective, model_constant}
use Rattle.sp_lower.specs.Rows.{row_places, row_terms, model_row, closing_row, written_width, is_wide}
use Rattle.sp_lower.specs.Sets.{weight_of, placed, by_weight, has_tie, has_twin, members_of, is_bad_set, model_set}
use Rattle.sp_lower.specs.Variables.{cores_from}
use Rattle.sp_lower.proofs.LowerLemmas.{refusal_is}
use Rattle.sp_lower.proofs.PassedLemmas.{AreFew, early_few, or_parts, all_from_none, closing_rows_are, narrow_row, narrow_indicator, if_none, not_false, wide_none}
use Rattle.sp_lower.proofs.SetLemmas.{distinct_pairs, or_parts as bool_parts}
use Rattle.sp_lower.proofs.StatedLemmas.{box_closed, box_long}

-- the laws of collected and of negated terms, as their functions say them
pub record Laws : Type 0 where
  pub lawful : (count : ℕ) (ts : List Term) → All (λ t. t.0 < count) ts → AreTermsLawful count (collected ts)
  pub narrow : (b : Bounds) (ts : List Term) → width_over b (collected ts) ≤ width_over b ts
  pub turned_lawful : (count : ℕ) (negate : Bool) (ts : List Term) → AreTermsLawful count ts → AreTermsLawful count (turned_terms negate ts)
  pub turned_wide : (b : Bounds) (negate : Bool) (ts : List Term) → width_over b (turned_terms negate ts) ≡ width_over b ts

-- ---- the closed box

rounded_same : (d : Draft) (rows : List Row) → map closing_row d.rows ≡ rows
    → rounded (outline d) ≡ rounds (is_semi (cores_from 0 d.vars)) rows most_rounds (stated_of (outline d))
unfolding rounded
rounded_same d rows e = ap (λ (rs : List Row). rounds (is_semi (cores_from 0 d.vars)) rs most_rounds (stated_of (outline d))) e

rounded_model : (d : Draft) → rounds (is_semi (cores_from 0 d.vars)) (map model_row d.rows) most_rounds (stated_of (outline d)) ≡ rounded (model_of d)
unfolding rounded
rounded_model d = refl

same_rounded : (d : Draft) → map closing_row d.rows ≡ map model_row d.rows → rounded (outline d) ≡ rounded (model_of d)
same_rounded d e = rounded_same d (map model_row d.rows) e ∙ rounded_model d

root_rounded : (m : ModelParts) → root_of m ≡ map closed (rounded m)
unfolding root_of
root_rounded m = refl

same_root : (d : Draft) → rounded (outline d) ≡ rounded (model_of d) → box_of d ≡ root_of (model_of d)
same_root d e = root_rounded (outline d) ∙ (ap (map closed) e ∙ sym (root_rounded (model_of d)))

closed_model : (d : Draft) → rounded (outline d) ≡ rounded (model_of d) → HasClosedBox (outline d) → HasClosedBox (model_of d)
closed_model d e h =
    record {
      bounds = record {
        variables = record { few = h.bounds.variables.few; paired = h.bounds.variables.paired };
        bounds = h.bounds.bounds;
        cores = record { rising = h.bounds.cores.rising; each = h.bounds.cores.each };
      };
      closed = subst (All IsClosedRange) e h.closed;
    }

-- ---- terms

scaled_known : (count places : ℕ) (ts : List WrittenTerm) → AreKnown count ts → All (λ t. t.0 < count) (scaled places ts)
scaled_known count places [] h = All-nil _
scaled_known count places (t ∷ ts) h =
    All-cons (λ (u : Term). u.0 < count) (t.0, units places t.1) (scaled places ts) (All-head (λ (u : WrittenTerm). u.0 < count) t ts h)
    (scaled_known count places ts (All-tail (λ (u : WrittenTerm). u.0 < count) t ts h))

-- ---- the objective

total_small : (zs : List ℤ) → unsigned_abs (total zs) ≤ sizes zs
total_small [] = omega arith
total_small (z ∷ zs) = let rest = total_small zs in omega (arith, ints)

turned_small : (negate : Bool) (z : ℤ) → unsigned_abs (turned negate z) ≡ unsigned_abs z
turned_small true z = omega (arith, ints)
turned_small false z = refl

objective_lawful : Laws → (b : Bounds) (d : Draft) → b ≡ root_of (model_of d) → AreKnown (length b) d.cost → objective_places d.cost d.constants ≤ 30 → objective_fault b d ≡ None → IsObjectiveLawful (model_of d)
objective_lawful laws b d e known few h =
    let narrow = leb-true (objective_width b d.cost d.constants) greatest_width (not_false _ (if_none (is_wide_objective b d.cost d.constants) _ _ h).0) in
    let ts = cost_terms d.cost d.constants in
    let terms = laws.turned_lawful (length b) d.maximize (collected ts) (laws.lawful (length b) ts (scaled_known (length b) (objective_places d.cost d.constants) d.cost known)) in
    let wide = laws.turned_wide b d.maximize (collected ts) in
    let less = laws.narrow b ts in
    let sum = total_small (whole_constants d.cost d.constants) in
    let sign = turned_small d.maximize (total (whole_constants d.cost d.constants)) in
    let whole : width_over b (turned_terms d.maximize (collected ts)) + unsigned_abs (model_constant d.maximize d.cost d.constants) ≤ greatest_width = omega arith in
    record {
      terms = subst (λ (r : Bounds). AreTermsLawful (length r) (turned_terms d.maximize (collected ts))) e terms;
      narrow = subst (λ (r : Bounds). width_over r (turned_terms d.maximize (collected ts)) + unsigned_abs (model_constant d.maximize d.cost d.constants) ≤ greatest_width) e whole;
      scaled = few;
    }

-- ---- rows and indicators

row_lawful : Laws → (b : Bounds) (row : DraftRow) → AreKnown (length b) row.terms → is_wide b row ≡ false → IsRowLawful b (model_row row)
row_lawful laws b row known h =
    let narrow = leb-true (written_width b row) greatest_width (not_false _ h) in
    let less = laws.narrow b (row_terms row) in
    record {
      terms = laws.lawful (length b) (row_terms row) (scaled_known (length b) (row_places row) row.terms known);
      narrow = omega arith;
    }

rows_lawful : Laws → (b : Bounds) (rows : List DraftRow) → All (λ row. AreKnown (length b) row.terms) rows → All (λ row. is_wide b row ≡ false) rows → All (IsRowLawful b) (map model_row rows)
rows_lawful laws b [] known h = All-nil _
rows_lawful laws b (row ∷ rows) known h =
    All-cons (IsRowLawful b) (model_row row) (map model_row rows)
    (row_lawful laws b row (All-head (λ (r : DraftRow). AreKnown (length b) r.terms) row rows known) (All-head (λ (r : DraftRow). is_wide b r ≡ false) row rows h))
    (rows_lawful laws b rows (All-tail (λ (r : DraftRow). AreKnown (length b) r.terms) row rows known) (All-tail (λ (r : DraftRow). is_wide b r ≡ false) row rows h))

and_two : (a b : Bool) → (a && b) ≡ true → (a ≡ true) × (b ≡ true)
and_two true b h = (refl, h)
and_two false b h = cc

le_from : (a b : ℤ) → int_le a b ≡ true → a ≤ℤ b
le_from a b h = grind (arith, ints)

binary_range : (r : ℤ × ℤ) → is_binary r ≡ true → IsBinary r
binary_range r h =
    let both = and_two (int_le (pos 0) r.0 && int_le r.0 (pos 1)) (int_le (pos 0) r.1 && int_le r.1 (pos 1)) h in
    let first = and_two (int_le (pos 0) r.0) (int_le r.0 (pos 1)) both.0 in
    let second = and_two (int_le (pos 0) r.1) (int_le r.1 (pos 1)) both.1 in
    record {
      least_from = le_from (pos 0) r.0 first.0;
      least_to = le_from r.0 (pos 1) first.1;
      greatest_from = le_from (pos 0) r.1 second.0;
      greatest_to = le_from r.1 (pos 1) second.1;
    }

binary_indicator : (b : Bounds) (k : ℕ) (i : DraftIndicator) → indicator_fault b k i ≡ None → is_binary (range_at b i.var) ≡ true
binary_indicator b k i h = (and_two (is_binary (range_at b i.var)) (not (is_wide b i.row)) (wide_none _ _ h)).0

-- what an indicator that isn't refused has
record IsFine (b : Bounds) (i : DraftIndicator) : Type 0 where
  binary : is_binary (range_at b i.var) ≡ true
  narrow : is_wide b i.row ≡ false

fine_indicator : (b : Bounds) (k : ℕ) (i : DraftIndicator) → indicator_fault b k i ≡ None → IsFine b i
fine_indicator b k i h = record { binary = binary_indicator b k i h; narrow = narrow_indicator b k i h }

indicators_lawful : Laws → (b : Bounds) (is : List DraftIndicator) → All (IsKnownIndicator (length b)) is → All (IsFine b) is → All (IsIndicatorLawful b) (map model_indicator is)
indicators_lawful laws b [] known h = All-nil _
indicators_lawful laws b (i ∷ is) known h =
    let here = All-head (IsKnownIndicator (length b)) i is known in
    let fine = All-head (IsFine b) i is h in
    All-cons (IsIndicatorLawful b) (model_indicator i) (map model_indicator is)
    (record { known = here.var; binary = binary_range (range_at b i.var) fine.binary; row = row_lawful laws b i.row here.terms fine.narrow })
    (indicators_lawful laws b is (All-tail (IsKnownIndicator (length b)) i is known) (All-tail (IsFine b) i is h))

-- ---- sets

placed_known : (count : ℕ) (m : WrittenTerm) (ms : List WrittenTerm) → m.0 < count → AreKnown count ms → AreKnown count (placed m ms)
placed_known count m [] h k = All-cons (λ (u : WrittenTerm). u.0 < count) m [] h (All-nil _)
placed_known count m (n ∷ ms) h k =
    elim (cases_Bool (int_lt (weight_of m) (weight_of n))) [
      | inl t ↦ rw t (All-cons (λ (u : WrittenTerm). u.0 < count) m (n ∷ ms) h k)
      | inr f ↦ rw f (All-cons (λ (u : WrittenTerm). u.0 < count) n (placed m ms) (All-head (λ (u : WrittenTerm). u.0 < count) n ms k) (placed_known count m ms h (All-tail (λ (u : WrittenTerm). u.0 < count) n ms k)))
    ]

ordered_known : (count : ℕ) (ms : List WrittenTerm) → AreKnown count ms → AreKnown count (by_weight ms)
ordered_known count [] h = All-nil _
ordered_known count (m ∷ ms) h = placed_known count m (by_weight ms) (All-head (λ (u : WrittenTerm). u.0 < count) m ms h) (ordered_known count ms (All-tail (λ (u : WrittenTerm). u.0 < count) m ms h))

vars_known : (count : ℕ) (ms : List WrittenTerm) → AreKnown count ms → All (λ v. v < count) (map (λ m. m.0) ms)
vars_known count [] h = All-nil _
vars_known count (m ∷ ms) h =
    All-cons (λ v. v < count) m.0 (map (λ n. n.0) ms) (All-head (λ (u : WrittenTerm). u.0 < count) m ms h) (vars_known count ms (All-tail (λ (u : WrittenTerm). u.0 < count) m ms h))

good_set : (k : ℕ) (set : DraftSos) → set_fault k set ≡ None → is_bad_set set ≡ false
good_set k set h = (if_none (is_bad_set set) _ _ h).0

set_lawful : (count : ℕ) (set : DraftSos) → AreKnown count set.members → is_bad_set set ≡ false → IsSetLawful count (model_set set)
set_lawful count set known h =
    record {
      known = vars_known count (by_weight set.members) (ordered_known count set.members known);
      once = distinct_pairs (members_of set) (bool_parts (has_tie set.members) (has_twin (members_of set)) h).1;
    }

sets_lawful : (count : ℕ) (sets : List DraftSos) → All (λ s. AreKnown count s.members) sets → All (λ s. is_bad_set s ≡ false) sets → All (IsSetLawful count) (map model_set sets)
sets_lawful count [] known h = All-nil _
sets_lawful count (s ∷ ss) known h =
    All-cons (IsSetLawful count) (model_set s) (map model_set ss)
    (set_lawful count s (All-head (λ (r : DraftSos). AreKnown count r.members) s ss known) (All-head (λ (r : DraftSos). is_bad_set r ≡ false) s ss h))
    (sets_lawful count ss (All-tail (λ (r : DraftSos). AreKnown count r.members) s ss known) (All-tail (λ (r : DraftSos). is_bad_set r ≡ false) s ss h))

-- ---- the model

model_lawful : Laws → (d : Draft) → IsWellFormed d → AreFew d → HasClosedBox (outline d) → length (box_of d) ≡ length d.vars → objective_places d.cost d.constants ≤ 30
    → box_fault (box_of d) d ≡ None → first_fault set_fault 0 d.sos ≡ None → IsLawful (model_of d)
model_lawful laws d formed few closed_box long scale box sets =
    let b = box_of d in
    let late = or_parts (objective_fault b d) _ box in
    let both = or_parts (first_fault (row_fault b) 0 d.rows) (first_fault (indicator_fault b) 0 d.indicators) late.1 in
    let rounds_same = same_rounded d (closing_rows_are b d.rows both.0) in
    let e = same_root d rounds_same in
    let names : length b ≡ length d.names = long ∙ formed.paired in
    let back = sym names in
    let narrow = all_from_none (row_fault b) (λ row. is_wide b row ≡ false) (narrow_row b) 0 d.rows both.0 in
    let fine = all_from_none (indicator_fault b) (IsFine b) (fine_indicator b) 0 d.indicators both.1 in
    let good = all_from_none set_fault (λ s. is_bad_set s ≡ false) good_set 0 d.sos sets in
    let rows = rows_lawful laws b d.rows (subst (λ n. All (λ (r : DraftRow). AreKnown n r.terms) d.rows) back formed.rows) narrow in
    let indicators = indicators_lawful laws b d.indicators (subst (λ n. All (IsKnownIndicator n) d.indicators) back formed.indicators) fine in
    let members = sets_lawful (length b) d.sos (subst (λ n. All (λ (s : DraftSos). AreKnown n s.members) d.sos) back formed.sos) good in
    record {
      box = closed_model d rounds_same closed_box;
      objective = objective_lawful laws b d e (subst (λ n. AreKnown n d.cost) back formed.cost) scale late.0;
      rows = record { few = omega (arith, length-map d.rows model_row, few.rows); each = subst (λ (r : Bounds). All (IsRowLawful r) (map model_row d.rows)) e rows };
      indicators = record { few = omega (arith, length-map d.indicators model_indicator, few.indicators); each = subst (λ (r : Bounds). All (IsIndicatorLawful r) (map model_indicator d.indicators)) e indicators };
      sets = record { few = omega (arith, length-map d.sos model_set, few.sos); each = subst (λ (r : Bounds). All (IsSetLawful (length r)) (map model_set d.sos)) e members };
    }

-- the parts that a draft of which nothing is refused stands for
pub lawful_model : Laws → (d : Draft) → IsWellFormed d → objective_places d.cost d.constants ≤ 30 → refusal_of d ≡ None → IsLawful (model_of d)
lawful_model laws d formed scale h =
    let parts = or_parts (early_fault d) (late_fault d) (sym (refusal_is d) ∙ h) in
    let late = or_parts (first_fault open_fault 0 (rounded (outline d))) (boxed_fault d) parts.1 in
    let boxed = or_parts (box_fault (box_of d) d) (first_fault set_fault 0 d.sos) late.1 in
    model_lawful laws d formed (early_few d parts.0) (box_closed d parts.0 late.0) (box_long d) scale boxed.0 boxed.1
