-- The text of the replies.
use Rattle.std.specs.Prelude.{ℕ, ◌+◌, List, [], ◌++◌, length, map, flat_map, Option, None, Some, ℤ}
use Rattle.std.specs.Fmt.{decimal}
use Rattle.sp_draft.specs.SolutionLines.{objective_text, solution_line}
use Rattle.sp_model.specs.declared.parts.ModelParts.{ModelParts}
use Rattle.sp_meaning.specs.declared.models.NamedModel.{NamedModel}
use Rattle.sp_meaning.specs.declared.refusals.Refusal.{Refusal}
use Rattle.sp_meaning.specs.declared.refusals.Refusal.TheVariants as refusal
use Rattle.sp_engine.specs.declared.replies.Reply.{Reply}
use Rattle.sp_engine.specs.declared.replies.Reply.TheVariants as reply
use Rattle.sp_engine.specs.Views.{View, point_of}
use Rattle.sp_printing.specs.declared.wordings.Wording.TheVariants as wording
use Rattle.sp_printing.specs.Wording.{refusal_wording, spelling}

-- the line of the optimum in the user's direction and unit, or the one that says that there is none
unfoldable pub optimum_line : ModelParts → Option ℤ → List ℕ
optimum_line m None = spelling wording.Infeasible
optimum_line m (Some v) =
    spelling wording.Optimum ++ objective_text m.maximize m.scale v ++ spelling wording.LineEnd

-- what stands before the solution lines of a complete list
abbrev pub done_head : ModelParts → Option ℤ → ℕ → List ℕ
done_head m best number =
    spelling wording.StatusDone ++ optimum_line m best
    ++ (spelling wording.Solutions ++ decimal number ++ spelling wording.LineEnd)

-- the reply of a complete list of these points
abbrev pub done_text : NamedModel → Option ℤ → List (List ℤ) → List ℕ
done_text named best xs =
    done_head named.model best (length xs) ++ flat_map (solution_line named.names named.model) xs

-- the reply of a run that the node limit stopped
unfoldable pub stopped_text : ℕ → List ℕ
stopped_text nodes =
    spelling wording.StatusNodeLimit ++ spelling wording.Nodes ++ decimal nodes ++ spelling wording.LineEnd

-- the reply of an accepted read
abbrev pub read_text : ℕ → ℕ → List ℕ
read_text variables rows =
    spelling wording.ReadVariables ++ decimal variables ++ spelling wording.Rows ++ decimal rows
    ++ spelling wording.LineEnd

-- the argument of a refusal: a line, a name, or the number of a row, an indicator or a set, counted from 1
abbrev pub refusal_argument : Refusal → List ℕ
refusal_argument (refusal.Syntax line) = decimal line
refusal_argument (refusal.WideNumeral line) = decimal line
refusal_argument (refusal.Continuous name) = name
refusal_argument (refusal.OpenVariable name) = name
refusal_argument (refusal.WideBound name) = name
refusal_argument (refusal.WideRow row) = decimal (row + 1)
refusal_argument refusal.WideObjective = []
refusal_argument (refusal.DuplicateName line) = decimal line
refusal_argument (refusal.UnknownName line) = decimal line
refusal_argument (refusal.Unsupported line) = decimal line
refusal_argument (refusal.NegativeUpper name) = name
refusal_argument (refusal.TooMany much) = []
refusal_argument (refusal.BadIndicator place) = decimal (place + 1)
refusal_argument (refusal.BadSos place) = decimal (place + 1)
refusal_argument refusal.FileAbsent = []
refusal_argument refusal.FileFault = []
refusal_argument refusal.FileTooLong = []

-- the reply of a refused command
abbrev pub refusal_text : Refusal → List ℕ
refusal_text why = spelling (refusal_wording why) ++ refusal_argument why ++ spelling wording.LineEnd

-- the reply that lists these serials; without a model there is none
abbrev pub listed_text : Option NamedModel → List (List ℤ) → Option ℤ → List ℕ → List ℕ
listed_text None found best serials = []
listed_text (Some named) found best serials = done_text named best (map (point_of found) serials)

-- the text of a reply, over the data after its command
abbrev pub reply_text : View → Reply → List ℕ
reply_text after (reply.Read variables rows) = read_text variables rows
reply_text after (reply.Listed optimum serials) = listed_text after.model after.found optimum serials
reply_text after (reply.Stopped nodes) = stopped_text nodes
reply_text after (reply.Refused why) = refusal_text why
