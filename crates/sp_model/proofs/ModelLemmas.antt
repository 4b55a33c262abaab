-- What the rules of a model give at a point of its root box.
use Rattle.std.proofs.Common.{◌≡◌, ℕ, ◌+◌, ◌<◌, ◌≤◌, Bool, true, false, ◌&&◌, inl, inr, refl, List, length, get_or, take, ℤ, All, Result, Ok, Err, IfErr, IfOk, ap, ◌∙◌, length-take-le, arith}
use Rattle.std.specs.Int.RustNames.{unsigned_abs}
use Rattle.std.specs.List.{list_all}
use Rattle.std.specs.Result.{IsOkUnless}
use Rattle.std.proofs.lemmas.List.{get_or-take}
use Rattle.std.proofs.lemmas.List.Sums.{AllPass-from_list_all, list_all-from_AllPass}
use Rattle.sp_model.specs.declared.parts.Row.{Row}
use Rattle.sp_model.specs.declared.parts.Indicator.{Indicator}
use Rattle.sp_model.specs.declared.parts.Sos.{Sos}
use Rattle.sp_model.specs.declared.parts.ModelParts.{ModelParts}
use Rattle.sp_model.specs.declared.refusal.BuildRefusal.{BuildRefusal}
use Rattle.sp_model.specs.declared.refusal.BuildRefusal.TheVariants.{Variables, Bound, Open, Objective, Row as RefusedRow, Indicator as RefusedIndicator, Sos as RefusedSos, NoMemory}
use Rattle.sp_model.specs.Boxes.{Bounds, IsWithin}
use Rattle.sp_model.specs.Limits.{most_variables, most_rows, most_indicators, most_sets, greatest_width}
use Rattle.sp_model.specs.Models.{root_of, row_holds, indicator_holds, set_holds, constraints_hold, Feasible}
use Rattle.sp_model.specs.Rounds.{rounded}
use Rattle.sp_model.specs.Rules.{AreTermsLawful, IsRangeLawful, AreCoresLawful, IsRowLawful, IsIndicatorLawful, IsSetLawful, AreLawful, AreBoundsLawful, HasClosedBox, IsFirstBroken, IsCoreFault, IsLawful, IsFirstFault, IsBoundsRefusal}
use Rattle.sp_model.specs.Stated.{Core, OpenBounds, IsClosedRange, core_holds, stated_of}
use Rattle.sp_model.specs.Sums.{Term, magnitude, AreTermsSafe}
use Rattle.sp_model.proofs.ClosedLemmas.{keeps_from_within}
use Rattle.sp_model.proofs.RoundLemmas.{length_root, length_rounded}
use Rattle.sp_model.proofs.StatedLemmas.{length_stated}
use Rattle.sp_model.proofs.SumLemmas.{magnitude-le-width}

known_within : (b : Bounds) (x : List ℤ) (ts : List Term) → IsWithin b x → AreTermsLawful (length b) ts → All (λ t. t.0 < length x) ts
known_within b x ts w l = λ k d i. omega (arith, l.known k d i, w.long)

row_safe : (b : Bounds) (x : List ℤ) (row : Row) → IsWithin b x → IsRowLawful b row → AreTermsSafe row.terms x
row_safe b x row w l = record {
  known = known_within b x row.terms w l.terms;
  small = omega (arith, magnitude-le-width b row.terms x w, l.narrow);
}

pub rows_safe : (m : ModelParts) (x : List ℤ) → IsLawful m → IsWithin (root_of m) x → All (λ row. AreTermsSafe row.terms x) m.rows
rows_safe m x h w = λ k d i. row_safe (root_of m) x (get_or m.rows k d) w (h.rows.each k d i)

pub indicators_known : (m : ModelParts) (x : List ℤ) → IsLawful m → IsWithin (root_of m) x → All (λ i. i.var < length x) m.indicators
indicators_known m x h w = λ k d i. omega (arith, (h.indicators.each k d i).known, w.long)

pub indicators_safe : (m : ModelParts) (x : List ℤ) → IsLawful m → IsWithin (root_of m) x → All (λ i. AreTermsSafe i.row.terms x) m.indicators
indicators_safe m x h w = λ k d i. row_safe (root_of m) x (get_or m.indicators k d).row w (h.indicators.each k d i).row

pub sets_known : (m : ModelParts) (x : List ℤ) → IsLawful m → IsWithin (root_of m) x → All (λ set. All (λ v. v < length x) set.vars) m.sos
sets_known m x h w = λ k d i. λ j e l. omega (arith, (h.sets.each k d i).known j e l, w.long)

pub cores_known : (m : ModelParts) (x : List ℤ) → IsLawful m → IsWithin (root_of m) x → All (λ core. core.0 < length x) m.semi
cores_known m x h w =
    let paired = h.box.bounds.variables.paired in
    λ k d i. omega (arith, (h.box.bounds.cores.each k d i).known, length_stated m paired, length_root m paired, w.long)

pub cost_known : (m : ModelParts) (x : List ℤ) → IsLawful m → IsWithin (root_of m) x → All (λ t. t.0 < length x) m.cost
cost_known m x h w = known_within (root_of m) x m.cost w h.objective.terms

pub cost_small : (m : ModelParts) (x : List ℤ) → IsLawful m → IsWithin (root_of m) x → unsigned_abs m.constant + magnitude m.cost x ≤ greatest_width
cost_small m x h w = omega (arith, magnitude-le-width (root_of m) m.cost x w, h.objective.narrow)

both : (a b : Bool) → (a && b) ≡ true → (a ≡ true) × (b ≡ true)
both true b h = (refl, h)
both false b h = cc

-- at a point within the closed box, the test tells whether it is feasible
pub feasible_from_test : (m : ModelParts) (x : List ℤ) → IsLawful m → IsWithin (root_of m) x → constraints_hold m x ≡ true → Feasible m x
feasible_from_test m x l w h =
    let cores = list_all (λ (core : Core). core_holds core x) m.semi in
    let rows = list_all (λ (row : Row). row_holds row x) m.rows in
    let indicators = list_all (λ (i : Indicator). indicator_holds i x) m.indicators in
    let p = both ((cores && rows) && indicators) (list_all (λ (set : Sos). set_holds set x) m.sos) h in
    let q = both (cores && rows) indicators p.0 in
    let r = both cores rows q.0 in
    record {
      within = keeps_from_within m x l.box w;
      cores = AllPass-from_list_all (λ (core : Core). core_holds core x) m.semi r.0;
      rows = AllPass-from_list_all (λ (row : Row). row_holds row x) m.rows r.1;
      indicators = AllPass-from_list_all (λ (i : Indicator). indicator_holds i x) m.indicators q.1;
      sets = AllPass-from_list_all (λ (set : Sos). set_holds set x) m.sos p.1;
    }

pub test_from_feasible : (m : ModelParts) (x : List ℤ) → Feasible m x → constraints_hold m x ≡ true
test_from_feasible m x h =
    rw (
      list_all-from_AllPass (λ (core : Core). core_holds core x) m.semi h.cores,
      list_all-from_AllPass (λ (row : Row). row_holds row x) m.rows h.rows,
      list_all-from_AllPass (λ (i : Indicator). indicator_holds i x) m.indicators h.indicators,
      list_all-from_AllPass (λ (set : Sos). set_holds set x) m.sos h.sets,
    )

-- a front part of lawful cores is lawful
front_lawful : (b : OpenBounds) (cores : List Core) (k : ℕ) → k < length cores → AreCoresLawful b cores → AreCoresLawful b (take (k + 1) cores)
front_lawful b cores k l h =
    let n : length (take (k + 1) cores) ≡ k + 1 = length-take-le (k + 1) cores (omega arith) in
    record {
      rising = λ i j d lt long. rw (get_or-take (k + 1) cores i d (omega arith), get_or-take (k + 1) cores j d (omega arith)) (h.rising i j d lt (omega arith));
      each = λ i d long. rw (get_or-take (k + 1) cores i d (omega arith)) (h.each i d (omega arith));
    }

unbroken : {X : Type 0} (limit : ℕ) (P : X → Type 0) (xs : List X) (k : ℕ) → AreLawful limit P xs → IsFirstBroken limit P xs k → ⊥
unbroken limit P xs k l f = f.broken (omega (arith, l.few, f.here)) (λ d. l.each k d f.here)

all_lawful_few : {X : Type 0} (limit : ℕ) (P : X → Type 0) (xs : List X) → length xs ≤ limit → All P xs → AreLawful limit P xs
all_lawful_few limit P xs few each = record { few = few; each = each }

core_fault : (m : ModelParts) (j : ℕ) → AreBoundsLawful m → IsCoreFault m j → ⊥
core_fault m j l f = f.first.broken (front_lawful (stated_of m) m.semi f.place f.first.here l.cores)

-- parts with a closed box have no fault of bounds but want of memory
pub closed_no_fault : (m : ModelParts) (e : BuildRefusal) → HasClosedBox m → IsFirstFault m e → IsBoundsRefusal e → e ≡ NoMemory
closed_no_fault m Variables l f early = absurd (f l.bounds.variables)
closed_no_fault m (Bound j) l (v, inl f) early =
    let few : length (stated_of m) ≤ most_variables = omega (arith, length_stated m l.bounds.variables.paired, l.bounds.variables.few) in
    absurd (unbroken most_variables IsRangeLawful (stated_of m) j (all_lawful_few most_variables IsRangeLawful (stated_of m) few l.bounds.bounds) f)
closed_no_fault m (Bound j) l (v, inr f) early = absurd (core_fault m j l.bounds f)
closed_no_fault m (Open j) l f early =
    let few : length (rounded m) ≤ most_variables = omega (arith, length_rounded m, length_stated m l.bounds.variables.paired, l.bounds.variables.few) in
    absurd (unbroken most_variables IsClosedRange (rounded m) j (all_lawful_few most_variables IsClosedRange (rounded m) few l.closed) f.1)
closed_no_fault m NoMemory l f early = refl
closed_no_fault m Objective l f early = absurd early
closed_no_fault m (RefusedRow r) l f early = absurd early
closed_no_fault m (RefusedIndicator k) l f early = absurd early
closed_no_fault m (RefusedSos k) l f early = absurd early

pub closed_accepted : {T : Type 0} (m : ModelParts) (r : Result T BuildRefusal) → IfErr r (IsFirstFault m) → IfErr r IsBoundsRefusal → HasClosedBox m → IsOkUnless r NoMemory
closed_accepted m (Ok v) f early l = tt
closed_accepted m (Err e) f early l = closed_no_fault m e l f early

pub closed_long : (m : ModelParts) (r : Result Bounds BuildRefusal) → IfOk r (λ root. (root ≡ root_of m) × HasClosedBox m) → IfOk r (λ root. length root ≡ length m.lower)
closed_long m (Ok root) h = ap length h.0 ∙ length_root m h.1.bounds.variables.paired
closed_long m (Err e) h = tt

-- lawful parts have no fault but want of memory
pub no_fault : (m : ModelParts) (e : BuildRefusal) → IsLawful m → IsFirstFault m e → e ≡ NoMemory
no_fault m Variables l f = closed_no_fault m Variables l.box f tt
no_fault m (Bound j) l f = closed_no_fault m (Bound j) l.box f tt
no_fault m (Open j) l f = closed_no_fault m (Open j) l.box f tt
no_fault m Objective l f = absurd (f.1 l.objective)
no_fault m (RefusedRow r) l f = absurd (unbroken most_rows (IsRowLawful (root_of m)) m.rows r l.rows f.1)
no_fault m (RefusedIndicator k) l f = absurd (unbroken most_indicators (IsIndicatorLawful (root_of m)) m.indicators k l.indicators f.2)
no_fault m (RefusedSos k) l f = absurd (unbroken most_sets (IsSetLawful (length (root_of m))) m.sos k l.sets f.3)
no_fault m NoMemory l f = refl
