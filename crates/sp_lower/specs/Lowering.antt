-- The model that a draft stands for, and the first thing in it that no model has.
use Rattle.std.specs.Prelude.{ℕ, ◌&&◌, if◌then◌else◌, [], map, Option, None, Some, is_some, pos}
use Rattle.std.specs.Option.{option_or}
use Rattle.sp_model.specs.declared.parts.Indicator.{Indicator}
use Rattle.sp_model.specs.declared.parts.ModelParts.{ModelParts}
use Rattle.sp_model.specs.Boxes.{Bounds}
use Rattle.sp_model.specs.Models.{root_of}
use Rattle.sp_model.specs.Rounds.{rounded}
use Rattle.sp_model.specs.Stated.{OpenRange}
use Rattle.sp_draft.specs.declared.drafts.Draft.{Draft}
use Rattle.sp_draft.specs.declared.drafts.DraftIndicator.{DraftIndicator}
use Rattle.sp_lower.specs.declared.refusals.LowerRefusal.{LowerRefusal}
use Rattle.sp_lower.specs.declared.refusals.LowerRefusal.TheVariants as refused
use Rattle.sp_lower.specs.Faults.{first_fault, count_fault, variable_fault, objective_fault, row_fault, indicator_fault, set_fault}
use Rattle.sp_lower.specs.Objectives.{objective_places, model_cost, model_constant}
use Rattle.sp_lower.specs.Rows.{model_row, closing_row}
use Rattle.sp_lower.specs.Sets.{model_set}
use Rattle.sp_lower.specs.Variables.{stated_lower, stated_upper, cores_from}

-- the indicator of a model that one becomes
abbrev pub model_indicator : DraftIndicator → Indicator
model_indicator i = record { var = i.var; on = i.on; row = model_row i.row }

-- what the closed box of a draft depends on: the variables, and the rows that help to close bounds
abbrev pub outline : Draft → ModelParts
outline d = record {
  maximize = d.maximize;
  scale = 0;
  constant = pos 0;
  cost = [];
  lower = map stated_lower d.vars;
  upper = map stated_upper d.vars;
  semi = cores_from 0 d.vars;
  rows = map closing_row d.rows;
  indicators = [];
  sos = [];
}

-- the box of the stated bounds and those that the rows close
abbrev pub box_of : Draft → Bounds
box_of d = root_of (outline d)

-- a bound of the variable at j is missing after the rounds
abbrev pub open_fault : ℕ → OpenRange → Option LowerRefusal
open_fault j r = if is_some r.0 && is_some r.1 then None else Some (refused.OpenVariable j)

-- the first thing, in this order, that no model has: a count above its limit; a variable; one that stays open; the objective; a row; an
-- indicator; a set
abbrev pub refusal_of : Draft → Option LowerRefusal
refusal_of d =
    option_or (count_fault d) (
    option_or (first_fault variable_fault 0 d.vars) (
    option_or (first_fault open_fault 0 (rounded (outline d))) (
    option_or (objective_fault (box_of d) d) (
    option_or (first_fault (row_fault (box_of d)) 0 d.rows) (
    option_or (first_fault (indicator_fault (box_of d)) 0 d.indicators)
    (first_fault set_fault 0 d.sos))))))

-- the parts of the model that a draft without such a thing stands for
abbrev pub model_of : Draft → ModelParts
model_of d = record {
  maximize = d.maximize;
  scale = objective_places d.cost d.constants;
  constant = model_constant d.maximize d.cost d.constants;
  cost = model_cost d.maximize d.cost d.constants;
  lower = map stated_lower d.vars;
  upper = map stated_upper d.vars;
  semi = cores_from 0 d.vars;
  rows = map model_row d.rows;
  indicators = map model_indicator d.indicators;
  sos = map model_set d.sos;
}
