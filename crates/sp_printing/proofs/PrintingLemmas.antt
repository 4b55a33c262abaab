-- What is printed of a run, whose notes stand behind the read's.
use Rattle.std.specs.Prelude.{ℤ, flat_map, map, slice_index_or, All}
use Rattle.std.specs.List.{AllByRecursion}
use Rattle.std.proofs.Common.{◌≡◌, ℕ, zero, suc, ◌<◌, ◌≤◌, List, [], ◌∷◌, ◌++◌, length, Some, refl, sym, ap, ◌∙◌, subst, arith}
use Rattle.std.proofs.lemmas.List.{length-map}
use Rattle.std.proofs.lemmas.List.Elements.{All-from_recursion, recursion_from_All}
use Rattle.sp_draft.specs.SolutionLines.{solution_line}
use Rattle.sp_model.specs.Boxes.{IsWithin}
use Rattle.sp_model.specs.Models.{root_of, Feasible}
use Rattle.sp_meaning.specs.declared.models.NamedModel.{NamedModel}
use Rattle.sp_engine.specs.declared.journals.Entry.TheVariants as entry
use Rattle.sp_engine.specs.declared.journals.FetchNote.{FetchNote}
use Rattle.sp_engine.specs.declared.journals.RunEnd.{RunEnd}
use Rattle.sp_engine.specs.declared.journals.RunEnd.TheVariants as end
use Rattle.sp_engine.specs.declared.replies.Reply.{Reply}
use Rattle.sp_engine.specs.Listing.{IsSerial, RepliesAfter}
use Rattle.sp_engine.specs.Notes.{run_notes}
use Rattle.sp_engine.specs.Runs.{IsSmall}
use Rattle.sp_engine.specs.Views.{View, point_of}
use Rattle.sp_printing.specs.Printing.{AreNoted, CanPrint, IsPrintable, entry_line, printed_text, serial_line}
use Rattle.sp_printing.specs.Replies.{done_head, listed_text, reply_text}

-- each noted point can be printed
printable_notes : (named : NamedModel) → ((x : List ℤ) → Feasible named.model x → IsWithin (root_of named.model) x) → (found : List (List ℤ)) (e : RunEnd) (nodes : ℕ) → length named.names ≡ length (root_of named.model)
    → AllByRecursion (Feasible named.model) found → AllByRecursion (IsPrintable named) (run_notes found e nodes)
printable_notes named within [] e nodes paired all = (tt, tt)
printable_notes named within (x ∷ xs) e nodes paired all = ((within x all.0, (within x all.0).long ∙ sym paired), printable_notes named within xs e nodes paired all.1)

-- each serial of the reply is the place of a note
places : (found : List (List ℤ)) (count : ℕ) (serials : List ℕ) → length found < count → AllByRecursion (IsSerial (length found)) serials → AllByRecursion (λ serial. serial < count) serials
places found count [] more all = tt
places found count (n ∷ ns) more all = (omega (arith, more, all.0.last), places found count ns more all.1)

noted_reply : (e : RunEnd) (named : NamedModel) (nodes count : ℕ) (after : View) (r : Reply) → RepliesAfter e named nodes after r → length after.found < count → AreNoted count r
noted_reply end.Done named nodes count after r h more =
    subst (AreNoted count) (sym h.reply_is)
    (All-from_recursion (λ serial. serial < count) h.serials (places after.found count h.serials more (recursion_from_All (IsSerial (length after.found)) h.serials h.known)))
noted_reply end.NodeLimit named nodes count after r h more = subst (AreNoted count) (sym h) tt
noted_reply end.Optimal named nodes count after r h more = absurd h
noted_reply end.Infeasible named nodes count after r h more = absurd h
noted_reply end.PopulateLimit named nodes count after r h more = absurd h

notes_long : (answer : FetchNote) (found : List (List ℤ)) (e : RunEnd) (nodes : ℕ) → length found < length (entry.Fetched answer ∷ run_notes found e nodes)
notes_long answer [] e nodes = omega arith
notes_long answer (x ∷ xs) e nodes = let h : length xs < length (entry.Fetched answer ∷ run_notes xs e nodes) = notes_long answer xs e nodes in omega (arith, h)

pub can_print : (named : NamedModel) (answer : FetchNote) (found : List (List ℤ)) (e : RunEnd) (nodes : ℕ) (after : View) (r : Reply)
    → ((x : List ℤ) → Feasible named.model x → IsWithin (root_of named.model) x) → length named.names ≡ length (root_of named.model) → All (Feasible named.model) found
    → after.found ≡ found → RepliesAfter e named nodes after r → IsSmall r → CanPrint named (entry.Fetched answer ∷ run_notes found e nodes) r
can_print named answer found e nodes after r within paired feasible same says small = record {
  small = small;
  noted = noted_reply e named nodes (length (entry.Fetched answer ∷ run_notes found e nodes)) after r says
      (subst (λ xs. length xs < length (entry.Fetched answer ∷ run_notes found e nodes)) (sym same) (notes_long answer found e nodes));
  each = All-from_recursion (IsPrintable named) (entry.Fetched answer ∷ run_notes found e nodes)
      (tt, printable_notes named within found e nodes paired (recursion_from_All (Feasible named.model) found feasible));
}

-- the note of a serial is that of its point
note_of_point : (found : List (List ℤ)) (e : RunEnd) (nodes place : ℕ) → place < length found
    → slice_index_or (run_notes found e nodes) place (entry.Ended end.Done 0) ≡ entry.Found (slice_index_or found place [])
note_of_point [] e nodes place h = absurd (omega arith)
note_of_point (x ∷ xs) e nodes zero h = refl
note_of_point (x ∷ xs) e nodes (suc place) h = note_of_point xs e nodes place (omega arith)

line_of_serial : (named : NamedModel) (answer : FetchNote) (found : List (List ℤ)) (e : RunEnd) (nodes serial : ℕ) → IsSerial (length found) serial
    → serial_line named (entry.Fetched answer ∷ run_notes found e nodes) serial ≡ solution_line named.names named.model (point_of found serial)
unfolding serial_line entry_line
line_of_serial named answer found e nodes zero h = absurd (let low : 1 ≤ 0 = h.first in omega (arith, low))
line_of_serial named answer found e nodes (suc place) h =
    let below : place < length found = (let high : suc place ≤ length found = h.last in omega (arith, high)) in
    ap (entry_line named) (note_of_point found e nodes place below)

lines_of_serials : (named : NamedModel) (answer : FetchNote) (found : List (List ℤ)) (e : RunEnd) (nodes : ℕ) (serials : List ℕ)
    → AllByRecursion (IsSerial (length found)) serials
    → flat_map (serial_line named (entry.Fetched answer ∷ run_notes found e nodes)) serials ≡ flat_map (solution_line named.names named.model) (map (point_of found) serials)
lines_of_serials named answer found e nodes [] all = refl
lines_of_serials named answer found e nodes (n ∷ ns) all =
    ap (λ text. text ++ flat_map (serial_line named (entry.Fetched answer ∷ run_notes found e nodes)) ns) (line_of_serial named answer found e nodes n all.0)
    ∙ ap (λ text. solution_line named.names named.model (point_of found n) ++ text) (lines_of_serials named answer found e nodes ns all.1)

-- what is printed is the text of the reply
pub text_fits : (named : NamedModel) (answer : FetchNote) (found : List (List ℤ)) (e : RunEnd) (nodes : ℕ) (after : View) (r : Reply)
    → after.model ≡ Some named → after.found ≡ found → RepliesAfter e named nodes after r
    → printed_text named (entry.Fetched answer ∷ run_notes found e nodes) r ≡ reply_text after r
unfolding printed_text
text_fits named answer found end.Done nodes after r model same h =
    ap (printed_text named (entry.Fetched answer ∷ run_notes found end.Done nodes)) h.reply_is
    ∙ ap (λ text. done_head named.model h.optimum (length h.serials) ++ text)
    (lines_of_serials named answer found end.Done nodes h.serials
    (subst (λ xs. AllByRecursion (IsSerial (length xs)) h.serials) same (recursion_from_All (IsSerial (length after.found)) h.serials h.known)))
    ∙ ap (λ n. done_head named.model h.optimum n ++ flat_map (solution_line named.names named.model) (map (point_of found) h.serials)) (sym (length-map h.serials (point_of found)))
    ∙ sym (ap (reply_text after) h.reply_is ∙ ap (λ o. listed_text o after.found h.optimum h.serials) model ∙ ap (λ xs. listed_text (Some named) xs h.optimum h.serials) same)
text_fits named answer found end.NodeLimit nodes after r model same h = ap (printed_text named (entry.Fetched answer ∷ run_notes found end.NodeLimit nodes)) h ∙ sym (ap (reply_text after) h)
text_fits named answer found end.Optimal nodes after r model same h = absurd h
text_fits named answer found end.Infeasible nodes after r model same h = absurd h
text_fits named answer found end.PopulateLimit nodes after r model same h = absurd h
