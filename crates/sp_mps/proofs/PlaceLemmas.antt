-- The lines that were read, and the one that is read next.
use Rattle.std.proofs.Common.{◌≡◌, ℕ, ◌+◌, ◌<◌, ◌≤◌, Bool, true, false, List, [], ◌∷◌, ◌++◌, length, take, drop, get_or, map, refl, ap, ◌∙◌, sym, arith, below_more, inl, inr, max}
use Rattle.std.specs.Prelude.{Option, Some, None, Ok, Err}
use Rattle.std.proofs.lemmas.List.{take_more, get_or-drop, length-drop, drop-drop}
use Rattle.sp_base.specs.Lines.{lines}
use Rattle.sp_draft.specs.declared.read_refusals.ReadRefusal.TheVariants as refusal
use Rattle.sp_mps_words.specs.declared.faults.FaultKind.{FaultKind}
use Rattle.sp_mps_words.specs.declared.faults.FaultKind.TheVariants.{Syntax}
use Rattle.sp_mps_words.specs.Lines.{Line, line_of, lines_of}
use Rattle.sp_mps.specs.Checks.{check}
use Rattle.sp_mps.specs.Facts.{facts}
use Rattle.sp_mps.specs.Verdicts.{ends, Goes, verdict_from, no_line, verdict, IsFault, IsRefused}
use Rattle.sp_mps_sections.specs.declared.line_faults.LineFault.{LineFault}
use Rattle.sp_mps_sections.specs.declared.line_faults.LineFault.TheVariants.{Refused, NoMemory}
use Rattle.sp_mps.specs.declared.reader.Reader.{Reader}
use Rattle.sp_mps.specs.inner.Reads.{IsKnown, IsRead, Says, refusal_at}
use Rattle.sp_mps_sections.specs.Answers.{Gives}
use Rattle.sp_mps.specs.inner.Steps.{step, start}
use Rattle.sp_mps.proofs.FactLemmas.{no_facts, taken, refused}
use Rattle.sp_mps.proofs.KnownLemmas.{taken_known, AreFew, taken_few}

-- so many lines were read and the file goes on behind each; the rest is what is left, and the reader holds what they say
pub record Stands (ls : List Line) (n : ℕ) (rest : List ℕ) (s : Reader) : Type 0 where
  pub within : n ≤ length ls
  pub left : drop n ls ≡ lines_of rest
  pub state : s ≡ facts (take n ls)
  pub goes : (i : ℕ) → i < n → verdict ls i ≡ Goes
  pub known : IsKnown s
  pub few : AreFew n s

-- the next line
record IsNext (ls : List Line) (n : ℕ) (l : Line) (after : List ℕ) : Type 0 where
  pub within : n < length ls
  pub here : get_or ls n no_line ≡ l
  pub left : drop (n + 1) ls ≡ lines_of after

opened : (rest line after : List ℕ) → lines rest ≡ line ∷ lines after → lines_of rest ≡ line_of line ∷ lines_of after
unfolding lines_of
opened rest line after e = ap (map line_of) e

next : (ls : List Line) (n : ℕ) (rest line after : List ℕ) → n ≤ length ls → drop n ls ≡ lines_of rest → lines rest ≡ line ∷ lines after → IsNext ls n (line_of line) after
next ls n rest line after le d e =
    let both : drop n ls ≡ line_of line ∷ lines_of after = d ∙ opened rest line after e in
    let many : length (drop n ls) ≡ length (line_of line ∷ lines_of after) = ap length both in
    let here : get_or (drop n ls) 0 no_line ≡ line_of line = ap (λ (xs : List Line). get_or xs 0 no_line) both in
    record {
      within = omega (arith, many, length-drop n ls);
      here = first_left ls n ∙ here;
      left = sym (drop-drop 1 n ls) ∙ ap (drop 1) both;
    }
  where
    first_left : (ls : List Line) (n : ℕ) → get_or ls n no_line ≡ get_or (drop n ls) 0 no_line
    first_left ls n = ap (λ k. get_or ls k no_line) (omega arith) ∙ sym (get_or-drop n ls 0 no_line)

through : (ls : List Line) (n : ℕ) (l : Line) → n < length ls → get_or ls n no_line ≡ l → take (n + 1) ls ≡ take n ls ++ l ∷ []
through ls n l h e = take_more ls n no_line h ∙ ap (λ x. take n ls ++ x ∷ []) e

verdict_is : (ls : List Line) (n : ℕ) (l : Line) (o : Option FaultKind) (b : Bool) → get_or ls n no_line ≡ l → check (take n ls) l ≡ o → ends l ≡ b → verdict ls n ≡ verdict_from o b
unfolding verdict
verdict_is ls n l o b h c e = rw (h, c, e) refl

pub begins : (bytes : List ℕ) → Stands (lines_of bytes) 0 bytes start
begins bytes = record {
  within = omega arith;
  left = refl;
  state = no_facts;
  goes = λ i h. absurd (omega arith);
  known = record { objective = tt; terms = λ k d lt. absurd (omega arith); indicators = λ k d lt. absurd (omega arith) };
  few = record { rows = omega arith; columns = omega arith; indicators = omega arith };
}

-- the reader took the next line
pub turn : (ls : List Line) (n : ℕ) (rest line after : List ℕ) (s t : Reader) → Stands ls n rest s → lines rest ≡ line ∷ lines after → step s (line_of line) ≡ Ok t → ends (line_of line) ≡ false → Stands ls (n + 1) after t
turn ls n rest line after s t h e f g =
    let x : IsNext ls n (line_of line) after = next ls n rest line after h.within h.left e in
    let r = taken (take n ls) (line_of line) s t h.state f in
    record {
      within = omega (arith, x.within);
      left = x.left;
      state = r.1 ∙ ap facts (sym (through ls n (line_of line) x.within x.here));
      goes = below_more _ _ h.goes (verdict_is ls n (line_of line) None false x.here r.0 g);
      known = taken_known (line_of line) s t h.known f;
      few = taken_few n (line_of line) s t h.few f;
    }

-- the file ends at the next line
pub finish : (ls : List Line) (n : ℕ) (rest line after : List ℕ) (s t : Reader) → Stands ls n rest s → lines rest ≡ line ∷ lines after → step s (line_of line) ≡ Ok t → ends (line_of line) ≡ true → IsRead ls t
finish ls n rest line after s t h e f g =
    let x : IsNext ls n (line_of line) after = next ls n rest line after h.within h.left e in
    let r = taken (take n ls) (line_of line) s t h.state f in
    record {
      place = n;
      first = record { within = x.within; before = h.goes; here = verdict_is ls n (line_of line) None true x.here r.0 g };
      state = r.1 ∙ ap facts (sym (through ls n (line_of line) x.within x.here));
      known = taken_known (line_of line) s t h.known f;
    }

fault : (ls : List Line) (n : ℕ) (rest line after : List ℕ) (s : Reader) (kind : FaultKind) → Stands ls n rest s → lines rest ≡ line ∷ lines after → step s (line_of line) ≡ Err kind → IsFault ls kind (n + 1)
fault ls n rest line after s kind h e f =
    let x : IsNext ls n (line_of line) after = next ls n rest line after h.within h.left e in
    inl (record {
      place = n;
      first = record { within = x.within; before = h.goes; here = verdict_is ls n (line_of line) (Some kind) (ends (line_of line)) x.here (refused (take n ls) (line_of line) s kind h.state f) refl };
      line_is = refl;
    })

-- the next line isn't taken: it is refused, or there is no memory
pub stopped : (ls : List Line) (n : ℕ) (rest line after : List ℕ) (s t : Reader) (f : LineFault) → Stands ls n rest s → lines rest ≡ line ∷ lines after → Gives {T = Unit {0}} (Err f) t (step s (line_of line)) → Says ls (Err (refusal_at f (n + 1)))
stopped ls n rest line after s t (Refused kind) h e g = inr (record { kind = kind; line = n + 1; fault = fault ls n rest line after s kind h e g; is = refl })
stopped ls n rest line after s t NoMemory h e g = inl refl

none_left : lines_of [] ≡ []
unfolding lines_of
none_left = refl

-- no line is left
pub open_end : (ls : List Line) (n m : ℕ) (rest : List ℕ) (s : Reader) → Stands ls n rest s → rest ≡ [] → m ≡ max n 1 → IsRefused ls (refusal.Syntax m)
open_end ls n m rest s h e mm =
    let none : length (drop n ls) ≡ 0 = ap length (h.left ∙ (ap lines_of e ∙ none_left)) in
    let all : n ≡ length ls = omega (arith, h.within, none, length-drop n ls) in
    record {
      kind = Syntax;
      line = m;
      fault = inr (record { all = λ i lt. h.goes i (omega (arith, all, lt)); kind_is = refl; line_is = omega (arith, all, mm) });
      is = refl;
    }
