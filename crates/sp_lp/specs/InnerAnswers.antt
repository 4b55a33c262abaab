-- What the reader of a list of tokens answers.
use Rattle.std.specs.Prelude.{◌≡◌, ◌⊎◌, ℕ, ◌-◌, List, Result, Ok, Err}
use Rattle.sp_draft.specs.declared.drafts.Draft.{Draft}
use Rattle.sp_draft.specs.declared.read_refusals.ReadRefusal.{ReadRefusal}
use Rattle.sp_draft.specs.declared.read_refusals.ReadRefusal.TheVariants as refusals
use Rattle.sp_lp_tokens.specs.declared.token_types.Token.{Token}
use Rattle.sp_lp_tokens.specs.SeenTokens.{SeenToken}
use Rattle.sp_lp_grammar.specs.Reads.{Lp}
use Rattle.sp_lp.specs.declared.fault_kinds.FaultKind.{FaultKind}
use Rattle.sp_lp.specs.declared.fault_kinds.FaultKind.TheVariants.{Syntax, Wide, WideBefore, Duplicate, Unsupported}
use Rattle.sp_lp.specs.InnerKinds.{fault_line}

-- the refusal of a fault of this kind at the place
abbrev pub refusal_by : FaultKind → List Token → ℕ → ReadRefusal
refusal_by Syntax list place = refusals.Syntax (fault_line list place)
refusal_by Wide list place = refusals.WideNumeral (fault_line list place)
refusal_by WideBefore list place = refusals.WideNumeral (fault_line list (place - 1))
refusal_by Duplicate list place = refusals.DuplicateName (fault_line list place)
refusal_by Unsupported list place = refusals.Unsupported (fault_line list place)

-- whatever the tokens mean is the answer, unless memory ran out
abbrev pub IsOnlyAnswer : List SeenToken → Result Draft ReadRefusal → Type 0
IsOnlyAnswer ts result = (draft : Draft) → Lp ts draft → (result ≡ Ok draft) ⊎ (result ≡ Err refusals.NoMemory)
