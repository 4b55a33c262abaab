use Rattle.std.proofs.Common.{sym, ap, subst, inl}
use Rattle.std.specs.Prelude.{Ok}
use Rattle.sp_draft.specs.Drafts.{IsWellFormed}
use Rattle.sp_draft.specs.declared.drafts.Draft.{Draft}
use Rattle.sp_mps_words.specs.Lines.{lines_of}
use Rattle.sp_mps.proofs.WellFormedLemmas.{well_formed}
use Rattle.sp_mps.proofs.AnswerLemmas.{is_draft, one_draft, apart, only_refused, first_refused}
use Rattle.sp_mps.proofs.mps_files.read_mps.Goals as goal

pub returns-in-Err : goal.returns-in-Err
returns-in-Err c = record {
  found = tt;
  known = tt;
  only = λ d h. only_refused (lines_of c.args.bytes.now) c.in-Err.refusal d c.in-Err.ensures h;
  refused = c.in-Err.ensures;
  first = λ r h. first_refused (lines_of c.args.bytes.now) c.in-Err.refusal r c.in-Err.ensures h;
}

pub returns-in-Ok-draft_of-clause-found : goal.returns-in-Ok-draft_of-clause-found
returns-in-Ok-draft_of-clause-found c = is_draft (lines_of c.args.bytes.now) c.in-Ok.reader c.in-Ok-draft_of.draft c.in-Ok-draft_of.ensures c.in-Ok.ensures

pub returns-in-Ok-draft_of-clause-known : goal.returns-in-Ok-draft_of-clause-known
returns-in-Ok-draft_of-clause-known c =
    let P : Draft → Type 0 = IsWellFormed in
    subst P (sym c.in-Ok-draft_of.ensures) (well_formed c.in-Ok.reader c.in-Ok.ensures.known)

pub returns-in-Ok-draft_of-clause-only : goal.returns-in-Ok-draft_of-clause-only
returns-in-Ok-draft_of-clause-only c = λ d h. inl (ap Ok (one_draft (lines_of c.args.bytes.now) c.in-Ok-draft_of.draft d (is_draft (lines_of c.args.bytes.now) c.in-Ok.reader c.in-Ok-draft_of.draft c.in-Ok-draft_of.ensures c.in-Ok.ensures) h))

pub returns-in-Ok-draft_of-clause-first : goal.returns-in-Ok-draft_of-clause-first
returns-in-Ok-draft_of-clause-first c = λ r h. absurd (apart (lines_of c.args.bytes.now) c.in-Ok-draft_of.draft r (is_draft (lines_of c.args.bytes.now) c.in-Ok.reader c.in-Ok-draft_of.draft c.in-Ok-draft_of.ensures c.in-Ok.ensures) h)
