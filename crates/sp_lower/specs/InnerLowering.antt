-- The steps of lowering that functions share.
use Rattle.std.specs.Prelude.{◌≡◌, ◌⊎◌, ◌≤◌, List, map, Option, Some}
use Rattle.sp_model.specs.Limits.{greatest_scale}
use Rattle.sp_model.specs.Rules.{IsLawful}
use Rattle.std.specs.Option.{option_or}
use Rattle.sp_model.specs.declared.parts.Indicator.{Indicator}
use Rattle.sp_model.specs.declared.refusal.BuildRefusal.{BuildRefusal}
use Rattle.sp_model.specs.declared.refusal.BuildRefusal.TheVariants as build
use Rattle.sp_decimal.specs.DecimalFraction.{DecimalFraction}
use Rattle.sp_model.specs.declared.parts.ModelParts.{ModelParts}
use Rattle.sp_model.specs.declared.parts.Sos.{Sos}
use Rattle.sp_model.specs.Boxes.{Bounds}
use Rattle.sp_model.specs.Rounds.{rounded}
use Rattle.sp_scaling.specs.Scaling.{WrittenTerm, greatest_width, size_of, sizes}
use Rattle.sp_draft.specs.declared.drafts.Draft.{Draft}
use Rattle.sp_draft.specs.declared.drafts.DraftIndicator.{DraftIndicator}
use Rattle.sp_lower.specs.declared.refusals.LowerRefusal.{LowerRefusal}
use Rattle.sp_lower.specs.declared.refusals.LowerRefusal.TheVariants as refused
use Rattle.sp_lower.specs.Faults.{first_fault, count_fault, variable_fault, objective_fault, row_fault, indicator_fault, set_fault}
use Rattle.sp_lower.specs.Objectives.{objective_places, cost_terms, whole_constants, model_cost, model_constant}
use Rattle.sp_lower.specs.Lowering.{outline, box_of, open_fault, model_of}
use Rattle.sp_lower.specs.Rows.{closing_row}

-- the counts and the variables
abbrev pub early_fault : Draft → Option LowerRefusal
early_fault d = option_or (count_fault d) (first_fault variable_fault 0 d.vars)

-- the objective, the rows and the indicators over the closed box
abbrev pub box_fault : Bounds → Draft → Option LowerRefusal
box_fault b d = option_or (objective_fault b d) (option_or (first_fault (row_fault b) 0 d.rows) (first_fault (indicator_fault b) 0 d.indicators))

-- there was no memory, or this is the refusal
abbrev pub Refuses : Option LowerRefusal → LowerRefusal → Type 0
Refuses fault r = (r ≡ refused.NoMemory) ⊎ (fault ≡ Some r)

-- the parts are a model's, as decimals have at most 30 places
abbrev pub MakesModel : Draft → Type 0
MakesModel d = objective_places d.cost d.constants ≤ greatest_scale → IsLawful (model_of d)

-- a variable is open, or there was no memory
abbrev pub IsOpening : BuildRefusal → Type 0
IsOpening (build.Open j) = Unit {0}
IsOpening build.NoMemory = Unit {0}
IsOpening build.Variables = ⊥
IsOpening (build.Bound j) = ⊥
IsOpening build.Objective = ⊥
IsOpening (build.Row k) = ⊥
IsOpening (build.Indicator k) = ⊥
IsOpening (build.Sos k) = ⊥

-- why a box isn't closed, in the words of drafts
abbrev pub opened : BuildRefusal → LowerRefusal
opened (build.Open j) = refused.OpenVariable j
opened build.NoMemory = refused.NoMemory
opened build.Variables = refused.NoMemory
opened (build.Bound j) = refused.NoMemory
opened build.Objective = refused.NoMemory
opened (build.Row k) = refused.NoMemory
opened (build.Indicator k) = refused.NoMemory
opened (build.Sos k) = refused.NoMemory

-- an indicator with its row as it stands while bounds are closed
abbrev pub closing_indicator : DraftIndicator → Indicator
closing_indicator i = record { var = i.var; on = i.on; row = closing_row i.row }

-- what is looked at once the box is closed
abbrev pub boxed_fault : Draft → Option LowerRefusal
boxed_fault d = option_or (box_fault (box_of d) d) (first_fault set_fault 0 d.sos)

-- what comes behind the counts and the variables
abbrev pub late_fault : Draft → Option LowerRefusal
late_fault d = option_or (first_fault open_fault 0 (rounded (outline d))) (boxed_fault d)

-- the coefficients and the constants of the objective each add up to at most 10^36 in magnitude
pub record IsNarrowObjective (cost : List WrittenTerm) (constants : List DecimalFraction) : Type 0 where
  pub terms : size_of (cost_terms cost constants) ≤ greatest_width
  pub whole : sizes (whole_constants cost constants) ≤ greatest_width

-- the parts with what isn't needed for the closed box
abbrev pub filled : Draft → ModelParts → List Sos → ModelParts
filled d m sos = record m {
  scale = objective_places d.cost d.constants;
  constant = model_constant d.maximize d.cost d.constants;
  cost = model_cost d.maximize d.cost d.constants;
  indicators = map closing_indicator d.indicators;
  sos = sos;
}
