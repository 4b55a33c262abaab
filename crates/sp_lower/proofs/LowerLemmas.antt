-- The steps of lowering, joined.
use Rattle.std.proofs.Common.{◌≡◌, ℕ, zero, suc, ◌+◌, ◌<◌, ◌≤◌, List, [], ◌∷◌, length, map, take, refl, ap, subst, ◌∙◌, sym, arith, inl, inr, All, Option, None, Some}
use Rattle.std.specs.Prelude.{is_some, HoldsAt, Result, Ok, Err, IfOk, IfErr}
use Rattle.std.specs.Option.{option_or}
use Rattle.std.proofs.lemmas.Bool.{cases_Bool}
use Rattle.std.proofs.lemmas.List.Elements.{All-head, All-tail}
use Rattle.std.proofs.lemmas.List.{length-map}
use Rattle.std.proofs.lemmas.Slice.Zip.{length-zip}
use Rattle.sp_model.specs.declared.parts.ModelParts.{ModelParts}
use Rattle.sp_model.specs.declared.parts.Indicator.{Indicator}
use Rattle.sp_model.specs.declared.parts.Row.{Row}
use Rattle.sp_model.specs.declared.parts.Sos.{Sos}
use Rattle.sp_model.specs.declared.refusal.BuildRefusal.{BuildRefusal}
use Rattle.sp_model.specs.declared.refusal.BuildRefusal.TheVariants as build
use Rattle.sp_model.specs.Boxes.{Bounds}
use Rattle.sp_model.specs.Models.{root_of}
use Rattle.sp_model.specs.Rounds.{rounded}
use Rattle.sp_model.specs.Rules.{AreBoundsLawful, HasClosedBox, IsFirstFault}
use Rattle.sp_model.specs.Stated.{OpenRange, IsClosedRange}
use Rattle.sp_draft.specs.declared.drafts.Draft.{Draft}
use Rattle.sp_lower.specs.declared.refusals.LowerRefusal.{LowerRefusal}
use Rattle.sp_lower.specs.declared.refusals.LowerRefusal.TheVariants as refused
use Rattle.sp_lower.specs.Faults.{first_fault, count_fault, variable_fault, objective_fault, row_fault, indicator_fault, set_fault}
use Rattle.sp_lower.specs.Lowering.{outline, box_of, open_fault, refusal_of, model_of, model_indicator}
use Rattle.sp_lower.specs.Rows.{model_row}
use Rattle.sp_lower.specs.Sets.{model_set}
use Rattle.sp_lower.specs.Variables.{stated_lower}
use Rattle.sp_lower.specs.InnerLowering.{IsNarrowObjective, early_fault, box_fault, boxed_fault, late_fault, Refuses, opened, filled, closing_indicator}
use Rattle.sp_lower.proofs.LengthLemmas.{length_rounded}
use Rattle.sp_lower.proofs.PassedLemmas.{or_parts, none_from_all, closing_rows_are, closing_indicators_are, narrow_objective}

-- ---- variables that stay open

closed_range : (k : ℕ) (r : OpenRange) → IsClosedRange r → open_fault k r ≡ None
closed_range k r h = rw (h.lower, h.upper) refl

pub none_open : (m : ModelParts) → HasClosedBox m → first_fault open_fault 0 (rounded m) ≡ None
none_open m h = none_from_all open_fault IsClosedRange closed_range 0 (rounded m) h.closed

open_range : (k : ℕ) (r : OpenRange) → (IsClosedRange r → ⊥) → open_fault k r ≡ Some (refused.OpenVariable k)
open_range k r h =
    elim (cases_Bool (is_some r.0)) [
      | inl t ↦ (elim (cases_Bool (is_some r.1)) [
        | inl u ↦ absurd (h (record { lower = t; upper = u }))
        | inr g ↦ rw (t, g) refl
      ])
      | inr f ↦ rw f refl
    ]

first_open : (k j : ℕ) (rs : List OpenRange) → j < length rs → All IsClosedRange (take j rs) → (HoldsAt IsClosedRange rs j → ⊥) → first_fault open_fault k rs ≡ Some (refused.OpenVariable (k + j))
first_open k j [] h a b = absurd (omega arith)
first_open k zero (r ∷ rs) h a b =
    let e : k ≡ k + zero = omega arith in
    rw (open_range k r (λ c. b (λ d. c))) (ap (λ n. Some (refused.OpenVariable n)) e)
first_open k (suc j) (r ∷ rs) h a b =
    let e : suc k + j ≡ k + suc j = omega arith in
    rw (closed_range k r (All-head IsClosedRange r (take j rs) a))
    (first_open (suc k) j rs (omega arith) (All-tail IsClosedRange r (take j rs) a) (λ c. b (λ d. c d)) ∙ ap (λ n. Some (refused.OpenVariable n)) e)

few_rounded : (m : ModelParts) → AreBoundsLawful m → length (rounded m) ≤ 2000
few_rounded m h = omega (arith, length_rounded m, length-zip m.lower m.upper, h.variables.few, h.variables.paired)

-- why a box isn't closed: want of memory, or the first variable that is open
pub open_refused : (m : ModelParts) (r : BuildRefusal) → IsFirstFault m r → Refuses (first_fault open_fault 0 (rounded m)) (opened r)
open_refused m (build.Open j) f =
    let few = few_rounded m f.0 in
    inr (first_open 0 j (rounded m) f.1.here f.1.before.each (f.1.broken (omega (arith, f.1.here))) ∙ ap (λ n. Some (refused.OpenVariable n)) (start j))
  where
    start : (j : ℕ) → 0 + j ≡ j
    start j = omega arith
open_refused m build.NoMemory f = inl refl
open_refused m build.Variables f = inl refl
open_refused m (build.Bound j) f = inl refl
open_refused m build.Objective f = inl refl
open_refused m (build.Row k) f = inl refl
open_refused m (build.Indicator k) f = inl refl
open_refused m (build.Sos k) f = inl refl

-- ---- the parts

parts_with : ModelParts → List Row → List Indicator → List Sos → ModelParts
parts_with m rows indicators sos = record m { rows = rows; indicators = indicators; sos = sos }

pub filled_is : (d : Draft) (m : ModelParts) (sos : List Sos) → m ≡ outline d → box_fault (box_of d) d ≡ None → sos ≡ map model_set d.sos → filled d m sos ≡ model_of d
unfolding parts_with
filled_is d m sos e box s =
    let late = (or_parts (objective_fault (box_of d) d) _ box).1 in
    let both = or_parts (first_fault (row_fault (box_of d)) 0 d.rows) (first_fault (indicator_fault (box_of d)) 0 d.indicators) late in
    let rows = closing_rows_are (box_of d) d.rows both.0 in
    let indicators = closing_indicators_are (box_of d) d.indicators both.1 in
    ap (λ p. filled d p sos) e
    ∙ ap (λ rs. parts_with (model_of d) rs (map closing_indicator d.indicators) sos) rows
    ∙ ap (λ is. parts_with (model_of d) (map model_row d.rows) is sos) indicators
    ∙ ap (λ ss. parts_with (model_of d) (map model_row d.rows) (map model_indicator d.indicators) ss) s

-- ---- refusals

pub refuses_first : (a b : Option LowerRefusal) (r : LowerRefusal) → Refuses a r → Refuses (option_or a b) r
refuses_first None b r (inl h) = inl h
refuses_first None b r (inr h) = cc
refuses_first (Some s) b r h = h

pub refuses_then : (a b : Option LowerRefusal) (r : LowerRefusal) → a ≡ None → Refuses b r → Refuses (option_or a b) r
refuses_then None b r h k = k
refuses_then (Some s) b r h k = cc

pub refuses_some : (a b : Option LowerRefusal) (r : LowerRefusal) → a ≡ Some r → Refuses (option_or a b) r
refuses_some None b r h = cc
refuses_some (Some s) b r h = inr h

pub or_none : (a b : Option LowerRefusal) → a ≡ None → b ≡ None → option_or a b ≡ None
or_none None b h k = k
or_none (Some r) b h k = cc

or_assoc : (a b c : Option LowerRefusal) → option_or (option_or a b) c ≡ option_or a (option_or b c)
or_assoc None b c = refl
or_assoc (Some r) b c = refl

-- all refusals: the early ones, and then the late ones
pub refusal_is : (d : Draft) → refusal_of d ≡ option_or (early_fault d) (late_fault d)
refusal_is d =
    let count = count_fault d in
    let vars = first_fault variable_fault 0 d.vars in
    let open_ones = first_fault open_fault 0 (rounded (outline d)) in
    let goal_ = objective_fault (box_of d) d in
    let rows = first_fault (row_fault (box_of d)) 0 d.rows in
    let indicators = first_fault (indicator_fault (box_of d)) 0 d.indicators in
    let sets = first_fault set_fault 0 d.sos in
    let box : option_or goal_ (option_or rows (option_or indicators sets)) ≡ option_or (option_or goal_ (option_or rows indicators)) sets =
    ap (option_or goal_) (sym (or_assoc rows indicators sets)) ∙ sym (or_assoc goal_ (option_or rows indicators) sets) in
    ap (λ o. option_or count (option_or vars (option_or open_ones o))) box ∙ sym (or_assoc count vars (late_fault d))

-- what passed one test goes on to the next
pub pass_good : (a b : Option LowerRefusal) (r : Result ModelParts LowerRefusal) (m : ModelParts) → a ≡ None → IfOk r (λ x. (b ≡ None) × (x ≡ m)) → IfOk r (λ x. (option_or a b ≡ None) × (x ≡ m))
pass_good a b (Ok x) m e h = (or_none a b e h.0, h.1)
pass_good a b (Err f) m e h = tt

pub pass_refused : (a b : Option LowerRefusal) (r : Result ModelParts LowerRefusal) → a ≡ None → IfErr r (Refuses b) → IfErr r (Refuses (option_or a b))
pass_refused a b (Ok x) e h = tt
pass_refused a b (Err f) e h = refuses_then a b f e h

pub lower_good : (d : Draft) (r : Result ModelParts LowerRefusal) → early_fault d ≡ None → IfOk r (λ m. (late_fault d ≡ None) × (m ≡ model_of d)) → IfOk r (λ m. (refusal_of d ≡ None) × (m ≡ model_of d))
lower_good d (Ok m) e h = (refusal_is d ∙ or_none (early_fault d) (late_fault d) e h.0, h.1)
lower_good d (Err f) e h = tt

pub lower_refused : (d : Draft) (r : Result ModelParts LowerRefusal) → early_fault d ≡ None → IfErr r (Refuses (late_fault d)) → IfErr r (Refuses (refusal_of d))
lower_refused d (Ok m) e h = tt
lower_refused d (Err f) e h = subst (λ o. Refuses o f) (sym (refusal_is d)) (refuses_then (early_fault d) (late_fault d) f e h)

pub lower_early : (d : Draft) (f : LowerRefusal) → early_fault d ≡ Some f → Refuses (refusal_of d) f
lower_early d f e = subst (λ o. Refuses o f) (sym (refusal_is d)) (refuses_some (early_fault d) (late_fault d) f e)

-- a box that isn't closed
pub open_late : (d : Draft) (m : ModelParts) (f : LowerRefusal) → m ≡ outline d → Refuses (first_fault open_fault 0 (rounded m)) f → Refuses (late_fault d) f
open_late d m f e h = refuses_first (first_fault open_fault 0 (rounded (outline d))) (boxed_fault d) f (subst (λ p. Refuses (first_fault open_fault 0 (rounded p)) f) e h)

pub open_none : (d : Draft) (m : ModelParts) → m ≡ outline d → first_fault open_fault 0 (rounded m) ≡ None → first_fault open_fault 0 (rounded (outline d)) ≡ None
open_none d m e h = subst (λ p. first_fault open_fault 0 (rounded p) ≡ None) e h

-- the closed box is that of the outline, and has a range for each variable
pub root_is_box : (d : Draft) (m : ModelParts) (b : Bounds) → m ≡ outline d → b ≡ root_of m → b ≡ box_of d
root_is_box d m b e h = h ∙ ap root_of e

pub root_is_long : (d : Draft) (m : ModelParts) (b : Bounds) → m ≡ outline d → length b ≡ length m.lower → length b ≡ length d.vars
root_is_long d m b e h = h ∙ (ap (λ (p : ModelParts). length p.lower) e ∙ length-map d.vars stated_lower)

-- something is refused over the box
pub boxed_some : (d : Draft) (b : Bounds) (f : LowerRefusal) → b ≡ box_of d → Some f ≡ box_fault b d → Refuses (boxed_fault d) f
boxed_some d b f e h = refuses_some (box_fault (box_of d) d) (first_fault set_fault 0 d.sos) f (sym (h ∙ ap (λ c. box_fault c d) e))

pub boxed_none : (d : Draft) (b : Bounds) → b ≡ box_of d → None ≡ box_fault b d → box_fault (box_of d) d ≡ None
boxed_none d b e h = sym (h ∙ ap (λ c. box_fault c d) e)

-- the objective isn't wide, where nothing is refused over the box
pub passed_objective : (d : Draft) → box_fault (box_of d) d ≡ None → IsNarrowObjective d.cost d.constants
passed_objective d h = narrow_objective (box_of d) d (or_parts (objective_fault (box_of d) d) _ h).0

pub same_good : (r : Result ModelParts LowerRefusal) (m n : ModelParts) → m ≡ n → IfOk r (λ x. x ≡ m) → IfOk r (λ x. x ≡ n)
same_good (Ok x) m n e h = h ∙ e
same_good (Err f) m n e h = tt
