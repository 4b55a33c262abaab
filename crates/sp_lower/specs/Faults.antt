-- What a draft's parts are refused for, each by itself.
use Rattle.std.specs.Prelude.{ℕ, suc, ◌+◌, Bool, not, ◌&&◌, nat_lt, if◌then◌else◌, List, [], ◌∷◌, length, Option, None, Some, ℤ, pos, int_le}
use Rattle.std.specs.Option.{option_or}
use Rattle.sp_model.specs.Boxes.{Bounds, range_at}
use Rattle.sp_draft.specs.declared.drafts.Draft.{Draft}
use Rattle.sp_draft.specs.declared.drafts.DraftIndicator.{DraftIndicator}
use Rattle.sp_draft.specs.declared.drafts.DraftRow.{DraftRow}
use Rattle.sp_draft.specs.declared.drafts.DraftSos.{DraftSos}
use Rattle.sp_draft.specs.declared.drafts.DraftVar.{DraftVar}
use Rattle.sp_lower.specs.declared.refusals.LowerRefusal.{LowerRefusal}
use Rattle.sp_lower.specs.declared.refusals.LowerRefusal.TheVariants as refused
use Rattle.sp_lower.specs.declared.refusals.What.TheVariants as what
use Rattle.sp_lower.specs.Bounds.{is_continuous, lacks_lower, has_far_bound}
use Rattle.sp_lower.specs.Objectives.{is_wide_objective}
use Rattle.sp_lower.specs.Rows.{is_wide}
use Rattle.sp_lower.specs.Sets.{is_bad_set}

-- the first refusal of a list of items, whose places are counted from k
abbrev pub first_fault : {X : Type 0} → (ℕ → X → Option LowerRefusal) → ℕ → List X → Option LowerRefusal
first_fault fault k [] = None
first_fault fault k (x ∷ xs) = option_or (fault k x) (first_fault fault (suc k) xs)

-- ---- counts

-- the terms of some rows, indicators and sets, as often as they are written
abbrev pub terms_of_rows : List DraftRow → ℕ
terms_of_rows [] = 0
terms_of_rows (r ∷ rs) = length r.terms + terms_of_rows rs

abbrev pub terms_of_indicators : List DraftIndicator → ℕ
terms_of_indicators [] = 0
terms_of_indicators (i ∷ is) = length i.row.terms + terms_of_indicators is

abbrev pub terms_of_sets : List DraftSos → ℕ
terms_of_sets [] = 0
terms_of_sets (s ∷ ss) = length s.members + terms_of_sets ss

-- all written terms, members of sets among them
abbrev pub term_count : Draft → ℕ
term_count d = length d.cost + terms_of_rows d.rows + terms_of_indicators d.indicators + terms_of_sets d.sos

-- the first of the counts that is above its limit
abbrev pub count_fault : Draft → Option LowerRefusal
count_fault d =
    if nat_lt 2000 (length d.vars) then Some (refused.TooMany what.Variables) else (
    if nat_lt 10000 (length d.rows) then Some (refused.TooMany what.Rows) else (
    if nat_lt 200000 (term_count d) then Some (refused.TooMany what.Terms) else (
    if nat_lt 1000 (length d.indicators) then Some (refused.TooMany what.Indicators) else (
    if nat_lt 1000 (length d.sos) then Some (refused.TooMany what.Sos) else None))))

-- ---- parts

-- what the variable at j is refused for, if anything
abbrev pub variable_fault : ℕ → DraftVar → Option LowerRefusal
variable_fault j v =
    if is_continuous v.kind then Some (refused.Continuous j) else (
    if lacks_lower v.lower v.upper then Some (refused.NegativeUpper j) else (
    if has_far_bound v then Some (refused.WideBound j) else None))

-- the objective, over the closed box
abbrev pub objective_fault : Bounds → Draft → Option LowerRefusal
objective_fault b d = if is_wide_objective b d.cost d.constants then Some refused.WideObjective else None

-- a row, over the closed box
abbrev pub row_fault : Bounds → ℕ → DraftRow → Option LowerRefusal
row_fault b k row = if is_wide b row then Some (refused.WideRow k) else None

-- both bounds are 0 or 1
abbrev pub is_binary : ℤ × ℤ → Bool
is_binary r = (int_le (pos 0) r.0 && int_le r.0 (pos 1)) && (int_le (pos 0) r.1 && int_le r.1 (pos 1))

-- an indicator, over the closed box
abbrev pub indicator_fault : Bounds → ℕ → DraftIndicator → Option LowerRefusal
indicator_fault b k i = if is_binary (range_at b i.var) && not (is_wide b i.row) then None else Some (refused.BadIndicator k)

-- a set
abbrev pub set_fault : ℕ → DraftSos → Option LowerRefusal
set_fault k set = if is_bad_set set then Some (refused.BadSos k) else None
