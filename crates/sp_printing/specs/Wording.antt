-- How the fixed parts of the printed text are spelled.
use Rattle.std.specs.Prelude.{ℕ, List, codes}
use Rattle.sp_lower.specs.declared.refusals.What.{What}
use Rattle.sp_lower.specs.declared.refusals.What.TheVariants as what
use Rattle.sp_meaning.specs.declared.refusals.Refusal.{Refusal}
use Rattle.sp_meaning.specs.declared.refusals.Refusal.TheVariants as refusal
use Rattle.sp_printing.specs.declared.wordings.Wording.{Wording}
use Rattle.sp_printing.specs.declared.wordings.Wording.TheVariants as wording

-- the bytes of a fixed part
unfoldable pub spelling : Wording → List ℕ
spelling wording.Usage = codes "usage: solpool [--absgap D] [--relgap D] [--nodes N] [--demo N] [FILE]\n"
spelling wording.BadArgument = codes "refused 41 bad argument\n"
spelling wording.StatusDone = codes "status done\n"
spelling wording.StatusNodeLimit = codes "status nodelimit\n"
spelling wording.Optimum = codes "optimum "
spelling wording.Infeasible = codes "infeasible\n"
spelling wording.Solutions = codes "solutions "
spelling wording.Nodes = codes "nodes "
spelling wording.ReadVariables = codes "read variables "
spelling wording.Rows = codes " rows "
spelling wording.LineEnd = codes "\n"
spelling wording.Syntax = codes "refused 1 syntax line "
spelling wording.WideNumeral = codes "refused 2 wide numeral line "
spelling wording.Continuous = codes "refused 3 continuous "
spelling wording.OpenVariable = codes "refused 4 open variable "
spelling wording.WideBound = codes "refused 5 wide bound "
spelling wording.WideRow = codes "refused 6 wide row "
spelling wording.WideObjective = codes "refused 7 wide objective"
spelling wording.DuplicateName = codes "refused 8 duplicate name line "
spelling wording.UnknownName = codes "refused 9 unknown name line "
spelling wording.Unsupported = codes "refused 10 unsupported line "
spelling wording.NegativeUpper = codes "refused 11 negative upper "
spelling wording.TooManyVariables = codes "refused 12 too many variables"
spelling wording.TooManyRows = codes "refused 12 too many rows"
spelling wording.TooManyTerms = codes "refused 12 too many terms"
spelling wording.TooManyIndicators = codes "refused 12 too many indicators"
spelling wording.TooManySos = codes "refused 12 too many sos"
spelling wording.BadIndicator = codes "refused 13 bad indicator "
spelling wording.BadSos = codes "refused 14 bad sos "
spelling wording.FileAbsent = codes "refused 51 file absent"
spelling wording.FileFault = codes "refused 52 file fault"
spelling wording.FileTooLong = codes "refused 53 file too long"

-- what there is too much of
abbrev pub too_many_wording : What → Wording
too_many_wording what.Variables = wording.TooManyVariables
too_many_wording what.Rows = wording.TooManyRows
too_many_wording what.Terms = wording.TooManyTerms
too_many_wording what.Indicators = wording.TooManyIndicators
too_many_wording what.Sos = wording.TooManySos

-- what stands before the argument of a refusal
abbrev pub refusal_wording : Refusal → Wording
refusal_wording (refusal.Syntax line) = wording.Syntax
refusal_wording (refusal.WideNumeral line) = wording.WideNumeral
refusal_wording (refusal.Continuous name) = wording.Continuous
refusal_wording (refusal.OpenVariable name) = wording.OpenVariable
refusal_wording (refusal.WideBound name) = wording.WideBound
refusal_wording (refusal.WideRow row) = wording.WideRow
refusal_wording refusal.WideObjective = wording.WideObjective
refusal_wording (refusal.DuplicateName line) = wording.DuplicateName
refusal_wording (refusal.UnknownName line) = wording.UnknownName
refusal_wording (refusal.Unsupported line) = wording.Unsupported
refusal_wording (refusal.NegativeUpper name) = wording.NegativeUpper
refusal_wording (refusal.TooMany much) = too_many_wording much
refusal_wording (refusal.BadIndicator place) = wording.BadIndicator
refusal_wording (refusal.BadSos place) = wording.BadSos
refusal_wording refusal.FileAbsent = wording.FileAbsent
refusal_wording refusal.FileFault = wording.FileFault
refusal_wording refusal.FileTooLong = wording.FileTooLong
