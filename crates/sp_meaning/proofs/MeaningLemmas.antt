-- The file of a name with some bytes means one thing.
use Rattle.std.specs.Prelude.{Result, Ok, Err}
use Rattle.std.specs.Option.{option_map}
use Rattle.std.proofs.Common.{◌≡◌, ℕ, List, Option, None, Some, ◌⊎◌, refl, sym, ap, ◌∙◌, subst, inl, inr}
use Rattle.sp_draft.specs.declared.drafts.Draft.{Draft}
use Rattle.sp_draft.specs.declared.read_refusals.ReadRefusal.{ReadRefusal}
use Rattle.sp_draft.specs.declared.read_refusals.ReadRefusal.TheVariants as unread
use Rattle.sp_lower.specs.declared.refusals.LowerRefusal.{LowerRefusal}
use Rattle.sp_lower.specs.declared.refusals.LowerRefusal.TheVariants as unmade
use Rattle.sp_lower.specs.Lowering.{model_of, refusal_of}
use Rattle.sp_lp.specs.Refusals.{IsRefused as IsLpRefused, refusal_of as lp_refusal_of}
use Rattle.sp_lp_grammar.specs.Reads.{LpOf}
use Rattle.sp_lp_tokens.specs.declared.token_types.TokenKindFault.{TokenKindFault}
use Rattle.sp_lp_tokens.specs.declared.token_types.TokenKindFault.TheVariants as faults
use Rattle.sp_mps.specs.Verdicts.{IsDraft as IsMpsDraft, IsRefused as IsMpsRefused, refusal_of as mps_refusal_of}
use Rattle.sp_mps_words.specs.declared.faults.FaultKind.{FaultKind}
use Rattle.sp_mps_words.specs.declared.faults.FaultKind.TheVariants as kinds
use Rattle.sp_mps_words.specs.Lines.{lines_of}
use Rattle.sp_meaning.specs.declared.formats.FileFormat.{FileFormat}
use Rattle.sp_meaning.specs.declared.formats.FileFormat.TheVariants.{Lp, Mps}
use Rattle.sp_meaning.specs.declared.models.Meaning.{Meaning}
use Rattle.sp_meaning.specs.declared.models.Meaning.TheVariants as meant
use Rattle.sp_meaning.specs.declared.refusals.Refusal.TheVariants as refusal
use Rattle.sp_meaning.specs.Formats.{format_of}
use Rattle.sp_meaning.specs.Models.{Means, ReadsAs, meaning_by, meaning_of, meaning_of_draft, name_of, reading_refusal}
use Rattle.sp_meaning.proofs.FaultLemmas.{told_refusal}

-- what the laws of a reader say: bytes have at most one draft, at most one refusal, and not both
pub record HasOneAnswer (IsDraft : Draft → Type 0) (IsRefused : ReadRefusal → Type 0) : Type 0 where
  pub one_draft : (c d : Draft) → IsDraft c → IsDraft d → c ≡ d
  pub one_refusal : (q r : ReadRefusal) → IsRefused q → IsRefused r → q ≡ r
  pub apart : (d : Draft) (r : ReadRefusal) → IsDraft d → IsRefused r → ⊥

abbrev pub LpHasOne : List ℕ → Type 0
LpHasOne bytes = HasOneAnswer (LpOf bytes) (IsLpRefused bytes)

abbrev pub MpsHasOne : List ℕ → Type 0
MpsHasOne bytes = HasOneAnswer (IsMpsDraft (lines_of bytes)) (IsMpsRefused (lines_of bytes))

one_read : (format : FileFormat) (bytes : List ℕ) → LpHasOne bytes → MpsHasOne bytes → (q r : Result Draft ReadRefusal) → ReadsAs format bytes q → ReadsAs format bytes r → q ≡ r
one_read Lp bytes lp mps (Ok c) (Ok d) f g = ap Ok (lp.one_draft c d f g)
one_read Lp bytes lp mps (Ok c) (Err r) f g = absurd (lp.apart c r f g)
one_read Lp bytes lp mps (Err q) (Ok d) f g = absurd (lp.apart d q g f)
one_read Lp bytes lp mps (Err q) (Err r) f g = ap Err (lp.one_refusal q r f g)
one_read Mps bytes lp mps (Ok c) (Ok d) f g = ap Ok (mps.one_draft c d f g)
one_read Mps bytes lp mps (Ok c) (Err r) f g = absurd (mps.apart c r f g)
one_read Mps bytes lp mps (Err q) (Ok d) f g = absurd (mps.apart d q g f)
one_read Mps bytes lp mps (Err q) (Err r) f g = ap Err (mps.one_refusal q r f g)

pub one_meaning : (name bytes : List ℕ) (m n : Meaning) → LpHasOne bytes → MpsHasOne bytes → Means name bytes m → Means name bytes n → m ≡ n
one_meaning name bytes m n lp mps a b = some_same (sym a.meaning_is ∙ ap meaning_of reads ∙ b.meaning_is)
  where
    same : Some a.format ≡ Some b.format → a.format ≡ b.format
    same h = cc

    reads : a.read ≡ b.read
    reads = one_read a.format bytes lp mps a.read b.read a.reads (subst (λ f. ReadsAs f bytes b.read) (sym (same (sym a.format_is ∙ b.format_is))) b.reads)

    some_same : Some m ≡ Some n → m ≡ n
    some_same h = cc

-- no file is refused for want of memory
lp_told : (kind : TokenKindFault) (line : ℕ) → unread.NoMemory ≡ lp_refusal_of kind line → ⊥
lp_told faults.BadByte line e = (let h : unread.NoMemory ≡ unread.Syntax line = e in cc)
lp_told faults.LongName line e = (let h : unread.NoMemory ≡ unread.Syntax line = e in cc)
lp_told faults.Wide line e = (let h : unread.NoMemory ≡ unread.WideNumeral line = e in cc)

mps_told : (kind : FaultKind) (line : ℕ) → unread.NoMemory ≡ mps_refusal_of kind line → ⊥
mps_told kinds.Syntax line e = (let h : unread.NoMemory ≡ unread.Syntax line = e in cc)
mps_told kinds.WideNumeral line e = (let h : unread.NoMemory ≡ unread.WideNumeral line = e in cc)
mps_told kinds.DuplicateName line e = (let h : unread.NoMemory ≡ unread.DuplicateName line = e in cc)
mps_told kinds.UnknownName line e = (let h : unread.NoMemory ≡ unread.UnknownName line = e in cc)
mps_told kinds.Unsupported line e = (let h : unread.NoMemory ≡ unread.Unsupported line = e in cc)

told : (format : FileFormat) (bytes : List ℕ) → ReadsAs format bytes (Err unread.NoMemory) → ⊥
told Lp bytes h = elim h [ inl t ↦ lp_told t.kind t.line t.refusal_is | inr g ↦ g.is_refusal.is_refusal ]
told Mps bytes h = mps_told h.kind h.line h.is

read_refused : (format : FileFormat) (bytes : List ℕ) (r : ReadRefusal) → ReadsAs format bytes (Err r) → (m : Meaning) × (option_map meant.Refused (reading_refusal r) ≡ Some m)
read_refused format bytes (unread.Syntax line) h = (meant.Refused (refusal.Syntax line), refl)
read_refused format bytes (unread.WideNumeral line) h = (meant.Refused (refusal.WideNumeral line), refl)
read_refused format bytes (unread.DuplicateName line) h = (meant.Refused (refusal.DuplicateName line), refl)
read_refused format bytes (unread.UnknownName line) h = (meant.Refused (refusal.UnknownName line), refl)
read_refused format bytes (unread.Unsupported line) h = (meant.Refused (refusal.Unsupported line), refl)
read_refused format bytes unread.NoMemory h = absurd (told format bytes h)

-- each draft means something
by_fault : (d : Draft) (fault : Option LowerRefusal) → (fault ≡ Some unmade.NoMemory → ⊥) → (m : Meaning) × (meaning_by d fault ≡ Some m)
by_fault d None f = (meant.Model (record { names = d.names; model = model_of d }), refl)
by_fault d (Some (unmade.TooMany what)) f = (meant.Refused (refusal.TooMany what), refl)
by_fault d (Some (unmade.Continuous var)) f = (meant.Refused (refusal.Continuous (name_of d.names var)), refl)
by_fault d (Some (unmade.NegativeUpper var)) f = (meant.Refused (refusal.NegativeUpper (name_of d.names var)), refl)
by_fault d (Some (unmade.WideBound var)) f = (meant.Refused (refusal.WideBound (name_of d.names var)), refl)
by_fault d (Some (unmade.OpenVariable var)) f = (meant.Refused (refusal.OpenVariable (name_of d.names var)), refl)
by_fault d (Some unmade.WideObjective) f = (meant.Refused refusal.WideObjective, refl)
by_fault d (Some (unmade.WideRow row)) f = (meant.Refused (refusal.WideRow row), refl)
by_fault d (Some (unmade.BadIndicator place)) f = (meant.Refused (refusal.BadIndicator place), refl)
by_fault d (Some (unmade.BadSos place)) f = (meant.Refused (refusal.BadSos place), refl)
by_fault d (Some unmade.NoMemory) f = absurd (f refl)

draft_said : (d : Draft) → (m : Meaning) × (meaning_of_draft d ≡ Some m)
unfolding meaning_of_draft
draft_said d = by_fault d (refusal_of d) (told_refusal d)

-- what the laws of a reader say: bytes have a draft or a refusal
abbrev pub Answers : (Draft → Type 0) → (ReadRefusal → Type 0) → Type 0
Answers IsDraft IsRefused = ((d : Draft) × IsDraft d) ⊎ ((r : ReadRefusal) × IsRefused r)

some_read : (name bytes : List ℕ) (format : FileFormat) (read : Result Draft ReadRefusal) → format_of name ≡ Some format → ReadsAs format bytes read → (m : Meaning) × Means name bytes m
some_read name bytes format (Ok d) f reads = ((draft_said d).0, record { format = format; format_is = f; read = Ok d; reads = reads; meaning_is = (draft_said d).1 })
some_read name bytes format (Err r) f reads =
    ((read_refused format bytes r reads).0, record { format = format; format_is = f; read = Err r; reads = reads; meaning_is = (read_refused format bytes r reads).1 })

pub some_meaning : (name bytes : List ℕ) (format : FileFormat) → Answers (LpOf bytes) (IsLpRefused bytes) → Answers (IsMpsDraft (lines_of bytes)) (IsMpsRefused (lines_of bytes))
    → format_of name ≡ Some format → (m : Meaning) × Means name bytes m
some_meaning name bytes Lp lp mps f = elim lp [ inl d ↦ some_read name bytes Lp (Ok d.0) f d.1 | inr r ↦ some_read name bytes Lp (Err r.0) f r.1 ]
some_meaning name bytes Mps lp mps f = elim mps [ inl d ↦ some_read name bytes Mps (Ok d.0) f d.1 | inr r ↦ some_read name bytes Mps (Err r.0) f r.1 ]
