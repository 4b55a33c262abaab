-- What is so of a draft of which something isn't refused.
use Rattle.std.proofs.Common.{◌≡◌, ℕ, suc, ◌≤◌, Bool, true, false, not, ◌&&◌, List, [], ◌∷◌, length, map, refl, ap, ◌∙◌, arith, All, Option, None, Some}
use Rattle.std.specs.Prelude.{if◌then◌else◌, nat_lt, nat_le, unsigned_abs}
use Rattle.std.specs.Option.{option_or}
use Rattle.std.proofs.lemmas.Bool.{ltb-false, leb-true, le-leb}
use Rattle.std.proofs.lemmas.List.Elements.{All-nil, All-cons, All-head, All-tail}
use Rattle.std.proofs.Math.Nat.{mul-le-mul_left}
use Rattle.sp_model.specs.Boxes.{Bounds, range_at}
use Rattle.sp_model.specs.Sums.{Term, reach, width_over, side_width}
use Rattle.sp_draft.specs.declared.drafts.Draft.{Draft}
use Rattle.sp_draft.specs.declared.drafts.DraftVar.{DraftVar}
use Rattle.sp_draft.specs.declared.drafts.DraftRow.{DraftRow}
use Rattle.sp_draft.specs.declared.drafts.DraftIndicator.{DraftIndicator}
use Rattle.sp_lower.specs.declared.refusals.LowerRefusal.{LowerRefusal}
use Rattle.sp_scaling.specs.Scaling.{greatest_width, size_of}
use Rattle.sp_lower.specs.Bounds.{is_continuous, lacks_lower, has_far_bound}
use Rattle.sp_lower.specs.Faults.{first_fault, count_fault, term_count, variable_fault, objective_fault, row_fault, is_binary, indicator_fault}
use Rattle.sp_lower.specs.Lowering.{model_indicator}
use Rattle.sp_lower.specs.Objectives.{cost_terms, objective_width, is_wide_objective}
use Rattle.sp_lower.specs.Rows.{row_terms, row_lower, model_row, written_width, is_wide, is_tame, closing_row}
use Rattle.sp_lower.specs.InnerLowering.{early_fault, IsNarrowObjective, closing_indicator}

pub or_parts : (a b : Option LowerRefusal) → option_or a b ≡ None → (a ≡ None) × (b ≡ None)
or_parts None b h = (refl, h)
or_parts (Some r) b h = cc

pub if_none : (b : Bool) (r : LowerRefusal) (o : Option LowerRefusal) → (if b then Some r else o) ≡ None → (b ≡ false) × (o ≡ None)
if_none true r o h = cc
if_none false r o h = (refl, h)

-- the counts
pub record AreFew (d : Draft) : Type 0 where
  pub vars : length d.vars ≤ 2000
  pub rows : length d.rows ≤ 10000
  pub indicators : length d.indicators ≤ 1000
  pub sos : length d.sos ≤ 1000

pub few_parts : (d : Draft) → count_fault d ≡ None → AreFew d
few_parts d h =
    let vars = if_none (nat_lt 2000 (length d.vars)) _ _ h in
    let rows = if_none (nat_lt 10000 (length d.rows)) _ _ vars.1 in
    let terms = if_none (nat_lt 200000 (term_count d)) _ _ rows.1 in
    let indicators = if_none (nat_lt 1000 (length d.indicators)) _ _ terms.1 in
    let sos = if_none (nat_lt 1000 (length d.sos)) _ _ indicators.1 in
    record {
      vars = ltb-false 2000 (length d.vars) vars.0;
      rows = ltb-false 10000 (length d.rows) rows.0;
      indicators = ltb-false 1000 (length d.indicators) indicators.0;
      sos = ltb-false 1000 (length d.sos) sos.0;
    }

-- where no item is refused, each has what no refusal means
pub all_from_none : {X : Type 0} (fault : ℕ → X → Option LowerRefusal) (P : X → Type 0) → ((k : ℕ) (x : X) → fault k x ≡ None → P x)
    → (k : ℕ) (xs : List X) → first_fault fault k xs ≡ None → All P xs
all_from_none fault P f k [] h = All-nil P
all_from_none fault P f k (x ∷ xs) h =
    let parts = or_parts (fault k x) (first_fault fault (suc k) xs) h in
    All-cons P x xs (f k x parts.0) (all_from_none fault P f (suc k) xs parts.1)

-- where each item has what no refusal means, none is refused
pub none_from_all : {X : Type 0} (fault : ℕ → X → Option LowerRefusal) (P : X → Type 0) → ((k : ℕ) (x : X) → P x → fault k x ≡ None)
    → (k : ℕ) (xs : List X) → All P xs → first_fault fault k xs ≡ None
none_from_all fault P f k [] h = refl
none_from_all fault P f k (x ∷ xs) h = rw (f k x (All-head P x xs h)) (none_from_all fault P f (suc k) xs (All-tail P x xs h))

near_variable : (k : ℕ) (v : DraftVar) → variable_fault k v ≡ None → has_far_bound v ≡ false
near_variable k v h =
    let whole = if_none (is_continuous v.kind) _ _ h in
    let upper = if_none (lacks_lower v.lower v.upper) _ _ whole.1 in
    (if_none (has_far_bound v) _ _ upper.1).0

pub near_variables : (d : Draft) → early_fault d ≡ None → All (λ v. has_far_bound v ≡ false) d.vars
near_variables d h =
    let parts = or_parts (count_fault d) (first_fault variable_fault 0 d.vars) h in
    all_from_none variable_fault (λ v. has_far_bound v ≡ false) near_variable 0 d.vars parts.1

pub early_few : (d : Draft) → early_fault d ≡ None → AreFew d
early_few d h = few_parts d (or_parts (count_fault d) (first_fault variable_fault 0 d.vars) h).0

-- ---- narrow sums

size-le-width : (b : Bounds) (ts : List Term) → size_of ts ≤ width_over b ts
size-le-width b [] = omega arith
size-le-width b (t ∷ ts) =
    let n = reach (range_at b t.0) in
    let one : 1 ≤ n = omega arith in
    let more = mul-le-mul_left {m = 1} {n = n} (unsigned_abs t.1) one in
    omega (arith, size-le-width b ts)

pub not_false : (b : Bool) → not b ≡ false → b ≡ true
not_false true h = refl
not_false false h = cc

and_from : (a b : Bool) → a ≡ true → b ≡ true → (a && b) ≡ true
and_from true true h k = refl
and_from true false h k = cc
and_from false b h k = cc

-- a row that isn't wide is tame
tame_row : (b : Bounds) (row : DraftRow) → is_wide b row ≡ false → is_tame row ≡ true
tame_row b row h =
    let narrow = leb-true (written_width b row) greatest_width (not_false _ h) in
    let size = size-le-width b (row_terms row) in
    and_from (nat_le (size_of (row_terms row)) greatest_width) _ (le-leb _ _ (omega arith))
    (and_from (nat_le (side_width (row_lower row)) greatest_width) _ (le-leb _ _ (omega arith)) (le-leb _ _ (omega arith)))

closing_is : (row : DraftRow) → is_tame row ≡ true → closing_row row ≡ model_row row
closing_is row h = rw h refl

pub narrow_row : (b : Bounds) (k : ℕ) (row : DraftRow) → row_fault b k row ≡ None → is_wide b row ≡ false
narrow_row b k row h = (if_none (is_wide b row) _ _ h).0

pub wide_none : (a : Bool) (r : LowerRefusal) → (if a then None else Some r) ≡ None → a ≡ true
wide_none true r h = refl
wide_none false r h = cc

and_right_true : (a b : Bool) → (a && b) ≡ true → b ≡ true
and_right_true true b h = h
and_right_true false b h = cc

not_true : (b : Bool) → not b ≡ true → b ≡ false
not_true true h = cc
not_true false h = refl

pub narrow_indicator : (b : Bounds) (k : ℕ) (i : DraftIndicator) → indicator_fault b k i ≡ None → is_wide b i.row ≡ false
narrow_indicator b k i h = not_true (is_wide b i.row) (and_right_true (is_binary (range_at b i.var)) (not (is_wide b i.row)) (wide_none _ _ h))

same_rows : (b : Bounds) (rows : List DraftRow) → All (λ row. is_wide b row ≡ false) rows → map closing_row rows ≡ map model_row rows
same_rows b [] h = refl
same_rows b (row ∷ rows) h =
    ap (λ r. r ∷ map closing_row rows) (closing_is row (tame_row b row (All-head (λ (r : DraftRow). is_wide b r ≡ false) row rows h)))
    ∙ ap (λ rs. model_row row ∷ rs) (same_rows b rows (All-tail (λ (r : DraftRow). is_wide b r ≡ false) row rows h))

same_indicators : (b : Bounds) (is : List DraftIndicator) → All (λ i. is_wide b i.row ≡ false) is → map closing_indicator is ≡ map model_indicator is
same_indicators b [] h = refl
same_indicators b (i ∷ is) h =
    ap (λ r. record { var = i.var; on = i.on; row = r } ∷ map closing_indicator is) (closing_is i.row (tame_row b i.row (All-head (λ (j : DraftIndicator). is_wide b j.row ≡ false) i is h)))
    ∙ ap (λ rs. model_indicator i ∷ rs) (same_indicators b is (All-tail (λ (j : DraftIndicator). is_wide b j.row ≡ false) i is h))

pub closing_rows_are : (b : Bounds) (rows : List DraftRow) → first_fault (row_fault b) 0 rows ≡ None → map closing_row rows ≡ map model_row rows
closing_rows_are b rows h = same_rows b rows (all_from_none (row_fault b) (λ row. is_wide b row ≡ false) (narrow_row b) 0 rows h)

pub closing_indicators_are : (b : Bounds) (is : List DraftIndicator) → first_fault (indicator_fault b) 0 is ≡ None → map closing_indicator is ≡ map model_indicator is
closing_indicators_are b is h = same_indicators b is (all_from_none (indicator_fault b) (λ i. is_wide b i.row ≡ false) (narrow_indicator b) 0 is h)

pub narrow_objective : (b : Bounds) (d : Draft) → objective_fault b d ≡ None → IsNarrowObjective d.cost d.constants
narrow_objective b d h =
    let narrow = leb-true (objective_width b d.cost d.constants) greatest_width (not_false _ (if_none (is_wide_objective b d.cost d.constants) _ _ h).0) in
    let size = size-le-width b (cost_terms d.cost d.constants) in
    record { terms = omega arith; whole = omega arith }
