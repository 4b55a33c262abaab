-- No draft and no file is refused for want of memory.
use Rattle.std.specs.Prelude.{Bool, true, false, ◌&&◌, if◌then◌else◌, nat_lt, not, is_some}
use Rattle.std.specs.Option.{option_or}
use Rattle.std.proofs.Common.{◌≡◌, ℕ, suc, List, [], ◌∷◌, length, Option, None, Some}
use Rattle.sp_model.specs.Boxes.{Bounds, range_at}
use Rattle.sp_model.specs.Rounds.{rounded}
use Rattle.sp_model.specs.Stated.{OpenRange}
use Rattle.sp_draft.specs.declared.drafts.Draft.{Draft}
use Rattle.sp_draft.specs.declared.drafts.DraftIndicator.{DraftIndicator}
use Rattle.sp_draft.specs.declared.drafts.DraftRow.{DraftRow}
use Rattle.sp_draft.specs.declared.drafts.DraftSos.{DraftSos}
use Rattle.sp_draft.specs.declared.drafts.DraftVar.{DraftVar}
use Rattle.sp_lower.specs.declared.refusals.LowerRefusal.{LowerRefusal}
use Rattle.sp_lower.specs.declared.refusals.LowerRefusal.TheVariants as unmade
use Rattle.sp_lower.specs.Bounds.{is_continuous, lacks_lower, has_far_bound}
use Rattle.sp_lower.specs.Faults.{count_fault, first_fault, indicator_fault, is_binary, objective_fault, row_fault, set_fault, term_count, variable_fault}
use Rattle.sp_lower.specs.Lowering.{box_of, open_fault, outline, refusal_of}
use Rattle.sp_lower.specs.Objectives.{is_wide_objective}
use Rattle.sp_lower.specs.Rows.{is_wide}
use Rattle.sp_lower.specs.Sets.{is_bad_set}

-- the fault isn't want of memory
abbrev pub IsTold : Option LowerRefusal → Type 0
IsTold fault = fault ≡ Some unmade.NoMemory → ⊥

told_none : IsTold None
told_none e = (let h : None ≡ Some unmade.NoMemory = e in cc)

told_some : (r : LowerRefusal) → (r ≡ unmade.NoMemory → ⊥) → IsTold (Some r)
told_some r f e = f (let h : Some r ≡ Some unmade.NoMemory = e in cc)

told_or : (a b : Option LowerRefusal) → IsTold a → IsTold b → IsTold (option_or a b)
told_or None b f g = g
told_or (Some r) b f g = f

told_then : (b : Bool) (r : LowerRefusal) (rest : Option LowerRefusal) → (r ≡ unmade.NoMemory → ⊥) → IsTold rest → IsTold (if b then Some r else rest)
told_then true r rest f g = told_some r f
told_then false r rest f g = g

told_else : (b : Bool) (r : LowerRefusal) → (r ≡ unmade.NoMemory → ⊥) → IsTold (if b then None else Some r)
told_else true r f = told_none
told_else false r f = told_some r f

told_first : {X : Type 0} (fault : ℕ → X → Option LowerRefusal) → ((k : ℕ) (x : X) → IsTold (fault k x)) → (k : ℕ) (xs : List X) → IsTold (first_fault fault k xs)
told_first fault each k [] = told_none
told_first fault each k (x ∷ xs) = told_or (fault k x) (first_fault fault (suc k) xs) (each k x) (told_first fault each (suc k) xs)

told_count : (d : Draft) → IsTold (count_fault d)
told_count d =
    told_then (nat_lt 2000 (length d.vars)) _ _ (λ e. cc)
    (told_then (nat_lt 10000 (length d.rows)) _ _ (λ e. cc)
    (told_then (nat_lt 200000 (term_count d)) _ _ (λ e. cc)
    (told_then (nat_lt 1000 (length d.indicators)) _ _ (λ e. cc)
    (told_then (nat_lt 1000 (length d.sos)) _ _ (λ e. cc) told_none))))

told_variable : (j : ℕ) (v : DraftVar) → IsTold (variable_fault j v)
told_variable j v =
    told_then (is_continuous v.kind) _ _ (λ e. cc)
    (told_then (lacks_lower v.lower v.upper) _ _ (λ e. cc) (told_then (has_far_bound v) _ _ (λ e. cc) told_none))

told_open : (j : ℕ) (r : OpenRange) → IsTold (open_fault j r)
told_open j r = told_else (is_some r.0 && is_some r.1) _ (λ e. cc)

told_objective : (b : Bounds) (d : Draft) → IsTold (objective_fault b d)
told_objective b d = told_then (is_wide_objective b d.cost d.constants) _ _ (λ e. cc) told_none

told_row : (b : Bounds) (k : ℕ) (row : DraftRow) → IsTold (row_fault b k row)
told_row b k row = told_then (is_wide b row) _ _ (λ e. cc) told_none

told_indicator : (b : Bounds) (k : ℕ) (i : DraftIndicator) → IsTold (indicator_fault b k i)
told_indicator b k i = told_else (is_binary (range_at b i.var) && not (is_wide b i.row)) _ (λ e. cc)

told_set : (k : ℕ) (set : DraftSos) → IsTold (set_fault k set)
told_set k set = told_then (is_bad_set set) _ _ (λ e. cc) told_none

pub told_refusal : (d : Draft) → IsTold (refusal_of d)
told_refusal d =
    told_or (count_fault d) _ (told_count d)
    (told_or (first_fault variable_fault 0 d.vars) _ (told_first variable_fault told_variable 0 d.vars)
    (told_or (first_fault open_fault 0 (rounded (outline d))) _ (told_first open_fault told_open 0 (rounded (outline d)))
    (told_or (objective_fault (box_of d) d) _ (told_objective (box_of d) d)
    (told_or (first_fault (row_fault (box_of d)) 0 d.rows) _ (told_first (row_fault (box_of d)) (told_row (box_of d)) 0 d.rows)
    (told_or (first_fault (indicator_fault (box_of d)) 0 d.indicators) _ (told_first (indicator_fault (box_of d)) (told_indicator (box_of d)) 0 d.indicators)
    (told_first set_fault told_set 0 d.sos))))))
