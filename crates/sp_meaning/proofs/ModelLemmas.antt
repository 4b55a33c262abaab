-- What a file means, by what was read and lowered.
use Rattle.std.specs.Prelude.{IfOk, IfErr, Result, Ok, Err}
use Rattle.std.specs.Option.{option_map}
use Rattle.std.proofs.Common.{◌≡◌, ℕ, List, length, None, Some, ◌⊎◌, sym, ap, ◌∙◌, subst, inl, inr}
use Rattle.std.proofs.lemmas.List.{length-map}
use Rattle.sp_model.specs.declared.parts.ModelParts.{ModelParts}
use Rattle.sp_model.specs.Models.{root_of}
use Rattle.sp_draft.specs.Drafts.{IsWellFormed}
use Rattle.sp_lower.specs.declared.refusals.LowerRefusal.{LowerRefusal}
use Rattle.sp_lower.specs.declared.refusals.LowerRefusal.TheVariants as unmade
use Rattle.sp_lower.specs.Lowering.{model_of, refusal_of}
use Rattle.sp_lower.specs.Variables.{stated_lower}
use Rattle.sp_model.specs.declared.no_memory.NoMemory.{NoMemory}
use Rattle.sp_draft.specs.declared.drafts.Draft.{Draft}
use Rattle.sp_draft.specs.declared.read_refusals.ReadRefusal.{ReadRefusal}
use Rattle.sp_draft.specs.declared.read_refusals.ReadRefusal.TheVariants as unread
use Rattle.sp_lp.specs.Refusals.{IsRefused as IsLpRefused}
use Rattle.sp_lp_grammar.specs.Reads.{LpOf}
use Rattle.sp_mps.specs.Verdicts.{IsDraft as IsMpsDraft, IsRefused as IsMpsRefused}
use Rattle.sp_mps_words.specs.Lines.{lines_of}
use Rattle.sp_meaning.specs.declared.formats.FileFormat.{FileFormat}
use Rattle.sp_meaning.specs.declared.formats.FileFormat.TheVariants.{Lp, Mps}
use Rattle.sp_meaning.specs.declared.models.Meaning.{Meaning}
use Rattle.sp_meaning.specs.declared.models.Meaning.TheVariants as meant
use Rattle.sp_meaning.specs.declared.refusals.Refusal.{Refusal}
use Rattle.sp_meaning.specs.Formats.{format_of}
use Rattle.sp_meaning.specs.Models.{Means, ReadsAs, lowering_refusal, meaning_by, meaning_of_draft, reading_refusal}

-- what the readers answer
abbrev pub Reads : FileFormat → List ℕ → Result Draft ReadRefusal → Type 0
Reads format bytes r = (r ≡ Err unread.NoMemory) ⊎ ReadsAs format bytes r

pub lp_reads : (format : FileFormat) (bytes : List ℕ) (r : Result Draft ReadRefusal) → format ≡ Lp → IfOk r (LpOf bytes) → IfErr r (λ e. (e ≡ unread.NoMemory) ⊎ IsLpRefused bytes e)
    → Reads format bytes r
lp_reads format bytes r is found refused = subst (λ f. Reads f bytes r) (sym is) (by r found refused)
  where
    by : (s : Result Draft ReadRefusal) → IfOk s (LpOf bytes) → IfErr s (λ e. (e ≡ unread.NoMemory) ⊎ IsLpRefused bytes e) → Reads Lp bytes s
    by (Ok draft) f g = inr f
    by (Err e) f g = elim g [ inl none ↦ inl (ap Err none) | inr h ↦ inr h ]

pub mps_reads : (format : FileFormat) (bytes : List ℕ) (r : Result Draft ReadRefusal) → format ≡ Mps → IfOk r (IsMpsDraft (lines_of bytes))
    → IfErr r (λ e. (e ≡ unread.NoMemory) ⊎ IsMpsRefused (lines_of bytes) e) → Reads format bytes r
mps_reads format bytes r is found refused = subst (λ f. Reads f bytes r) (sym is) (by r found refused)
  where
    by : (s : Result Draft ReadRefusal) → IfOk s (IsMpsDraft (lines_of bytes)) → IfErr s (λ e. (e ≡ unread.NoMemory) ⊎ IsMpsRefused (lines_of bytes) e) → Reads Mps bytes s
    by (Ok draft) f g = inr f
    by (Err e) f g = elim g [ inl none ↦ inl (ap Err none) | inr h ↦ inr h ]

-- a draft was read, and this is its meaning
pub draft_means : (name bytes : List ℕ) (format : FileFormat) (read : Result Draft ReadRefusal) (draft : Draft) (r : Result Meaning NoMemory) → Reads format bytes read → read ≡ Ok draft
    → IfOk r (λ m. meaning_of_draft draft ≡ Some m) → format_of name ≡ Some format → IfOk r (Means name bytes)
draft_means name bytes format read draft (Ok m) reads is means f = elim reads [
  | inl none ↦ absurd (let h : Ok draft ≡ Err unread.NoMemory = sym is ∙ none in cc)
  | inr said ↦ record { format = format; format_is = f; read = Ok draft; reads = subst (ReadsAs format bytes) is said; meaning_is = means }
]
draft_means name bytes format read draft (Err e) reads is means f = tt

abbrev err_of : ReadRefusal → Result Draft ReadRefusal
err_of why = Err why

-- the bytes are refused
pub refusal_means : (name bytes : List ℕ) (format : FileFormat) (read : Result Draft ReadRefusal) (why : ReadRefusal) (r : Refusal) → Reads format bytes read → read ≡ Err why
    → Some r ≡ reading_refusal why → format_of name ≡ Some format → Means name bytes (meant.Refused r)
refusal_means name bytes format read why r reads is told f = elim reads [
  | inl none ↦ absurd (lost (errs (sym is ∙ none)))
  | inr said ↦ record { format = format; format_is = f; read = Err why; reads = subst (ReadsAs format bytes) is said; meaning_is = ap (option_map meant.Refused) (sym told) }
]
  where
    errs : err_of why ≡ err_of unread.NoMemory → why ≡ unread.NoMemory
    errs h = cc

    lost : why ≡ unread.NoMemory → ⊥
    lost h = let e : Some r ≡ None = told ∙ ap reading_refusal h in cc

-- nothing in the draft is refused, and this is its model
pub model_said : (d : Draft) (m : ModelParts) → refusal_of d ≡ None → m ≡ model_of d → meaning_of_draft d ≡ Some (meant.Model (record { names = d.names; model = m }))
unfolding meaning_of_draft
model_said d m none is = ap (meaning_by d) none ∙ ap (λ (p : ModelParts). Some (meant.Model (record { names = d.names; model = p }))) (sym is)

-- the draft is refused for this
pub refusal_said : (d : Draft) (why : LowerRefusal) (r : Refusal) → (why ≡ unmade.NoMemory) ⊎ (refusal_of d ≡ Some why) → lowering_refusal d.names why ≡ Some r
    → meaning_of_draft d ≡ Some (meant.Refused r)
unfolding meaning_of_draft
refusal_said d why r answer is = elim answer [ inl none ↦ absurd (lost none) | inr some ↦ ap (meaning_by d) some ∙ ap (option_map meant.Refused) is ]
  where
    lost : why ≡ unmade.NoMemory → ⊥
    lost h = let e : None ≡ Some r = sym (ap (lowering_refusal d.names) h) ∙ is in cc

-- the model of a draft has a name for each variable
pub model_paired : (d : Draft) (m : ModelParts) → IsWellFormed d → m ≡ model_of d → length m.lower ≡ length (root_of m) → length d.names ≡ length (root_of m)
model_paired d m formed is long = sym formed.paired ∙ sym (length-map d.vars stated_lower) ∙ ap (λ (p : ModelParts). length p.lower) (sym is) ∙ long
