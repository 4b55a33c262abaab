-- What stands behind ENDATA plays no part.
use Rattle.std.proofs.Common.{◌≡◌, ◌≢◌, ℕ, ◌+◌, ◌<◌, Bool, true, ◌∙◌, sym, ap, refl, List, [], ◌∷◌, ◌++◌, length, inl, inr, subst, append_assoc, arith}
use Rattle.std.specs.Prelude.{Option, Some, None, ◌↔◌}
use Rattle.std.proofs.lemmas.List.{length-append, take-append-le, get_or_append_left}
use Rattle.std.proofs.Math.Seq.{get_or-append_seam}
use Rattle.sp_draft.specs.declared.drafts.Draft.{Draft}
use Rattle.sp_draft.specs.declared.read_refusals.ReadRefusal.{ReadRefusal}
use Rattle.sp_mps_words.specs.declared.faults.FaultKind.{FaultKind}
use Rattle.sp_mps_words.specs.Lines.{Line}
use Rattle.sp_mps.specs.Drafts.{draft_of}
use Rattle.sp_mps.specs.Facts.{facts}
use Rattle.sp_mps.specs.Verdicts.{ends, Verdict, Goes, Ends, Fails, verdict_from, no_line, verdict, IsFirst, IsFault, IsDraft, IsRefused}

agree : (xs ys : List Line) (i : ℕ) → i < length xs → verdict (xs ++ ys) i ≡ verdict xs i
unfolding verdict
agree xs ys i h = rw (take-append-le i xs ys (omega (arith, h)), get_or_append_left xs ys no_line i h) refl

never_goes : (o : Option FaultKind) (b : Bool) → b ≡ true → verdict_from o b ≢ Goes
never_goes None b e g = let f : verdict_from None true ≡ Goes = ap (verdict_from None) (sym e) ∙ g in cc
never_goes (Some kind) b e g = cc

-- the last line ends the file, or is refused
stops : (front : List Line) (l : Line) → ends l ≡ true → verdict (front ++ l ∷ []) (length front) ≢ Goes
unfolding verdict
stops front l e = never_goes _ _ (ap ends (get_or-append_seam front l [] no_line) ∙ e)

moved : (front xs ys : List Line) (l : Line) (n : ℕ) (v : Verdict) → ends l ≡ true → IsFirst ((front ++ l ∷ []) ++ xs) n v → (n < length (front ++ l ∷ [])) × IsFirst ((front ++ l ∷ []) ++ ys) n v
moved front xs ys l n v e h =
    let size : length (front ++ l ∷ []) ≡ length front + 1 = length-append front (l ∷ []) in
    let near : n < length (front ++ l ∷ []) = omega (arith, size, far) in (
      near,
      record {
        within = omega (arith, near, length-append (front ++ l ∷ []) ys);
        before = λ i lt. agree (front ++ l ∷ []) ys i (omega (arith, lt, near)) ∙ (sym (agree (front ++ l ∷ []) xs i (omega (arith, lt, near))) ∙ h.before i lt);
        here = agree (front ++ l ∷ []) ys n near ∙ (sym (agree (front ++ l ∷ []) xs n near) ∙ h.here);
      },
    )
  where
    far : length front < n → ⊥
    far lt = stops front l e (sym (agree (front ++ l ∷ []) xs (length front) (omega (arith, length-append front (l ∷ [])))) ∙ h.before (length front) lt)

draft_moved : (front xs ys : List Line) (l : Line) (d : Draft) → ends l ≡ true → IsDraft ((front ++ l ∷ []) ++ xs) d → IsDraft ((front ++ l ∷ []) ++ ys) d
draft_moved front xs ys l d e h =
    let m = moved front xs ys l h.place Ends e h.first in
    record {
      place = h.place;
      first = m.1;
      means = h.means ∙ ap (λ ls. draft_of (facts ls)) (take-append-le (h.place + 1) (front ++ l ∷ []) xs (omega (arith, m.0)) ∙ sym (take-append-le (h.place + 1) (front ++ l ∷ []) ys (omega (arith, m.0))));
    }

fault_moved : (front xs ys : List Line) (l : Line) (kind : FaultKind) (line : ℕ) → ends l ≡ true → IsFault ((front ++ l ∷ []) ++ xs) kind line → IsFault ((front ++ l ∷ []) ++ ys) kind line
fault_moved front xs ys l kind line e (inl h) = inl (record { place = h.place; first = (moved front xs ys l h.place (Fails kind) e h.first).1; line_is = h.line_is })
fault_moved front xs ys l kind line e (inr h) =
    let size : length front < length (front ++ l ∷ []) = omega (arith, length-append front (l ∷ [])) in
    absurd (stops front l e (sym (agree (front ++ l ∷ []) xs (length front) size) ∙ h.all (length front) (omega (arith, size, length-append (front ++ l ∷ []) xs))))

refusal_moved : (front xs ys : List Line) (l : Line) (r : ReadRefusal) → ends l ≡ true → IsRefused ((front ++ l ∷ []) ++ xs) r → IsRefused ((front ++ l ∷ []) ++ ys) r
refusal_moved front xs ys l r e h = record { kind = h.kind; line = h.line; fault = fault_moved front xs ys l h.kind h.line e h.fault; is = h.is }

joined : (front xs : List Line) (l : Line) → (front ++ l ∷ []) ++ xs ≡ front ++ l ∷ xs
joined front xs l = append_assoc front (l ∷ []) xs

draft_over : (front xs ys : List Line) (l : Line) (d : Draft) → ends l ≡ true → IsDraft (front ++ l ∷ xs) d → IsDraft (front ++ l ∷ ys) d
draft_over front xs ys l d e h =
    let P : List Line → Type 0 = λ ls. IsDraft ls d in
    subst P (joined front ys l) (draft_moved front xs ys l d e (subst P (sym (joined front xs l)) h))

refusal_over : (front xs ys : List Line) (l : Line) (r : ReadRefusal) → ends l ≡ true → IsRefused (front ++ l ∷ xs) r → IsRefused (front ++ l ∷ ys) r
refusal_over front xs ys l r e h =
    let P : List Line → Type 0 = λ ls. IsRefused ls r in
    subst P (joined front ys l) (refusal_moved front xs ys l r e (subst P (sym (joined front xs l)) h))

pub same_draft : (front behind other : List Line) (l : Line) (d : Draft) → ends l ≡ true → IsDraft (front ++ l ∷ behind) d ↔ IsDraft (front ++ l ∷ other) d
same_draft front behind other l d e = (draft_over front behind other l d e, draft_over front other behind l d e)

pub same_refusal : (front behind other : List Line) (l : Line) (r : ReadRefusal) → ends l ≡ true → IsRefused (front ++ l ∷ behind) r ↔ IsRefused (front ++ l ∷ other) r
same_refusal front behind other l r e = (refusal_over front behind other l r e, refusal_over front other behind l r e)
