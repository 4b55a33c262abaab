use Rattle.std.proofs.Common.{◌≡◌, ◌∙◌, ap, sym, subst, List, [], ◌∷◌, ◌++◌}
use Rattle.sp_base.specs.Buffers.{inner_of}
use Rattle.sp_base.specs.Writing.{state_of}
use Rattle.sp_engine.specs.declared.journals.Entry.{Entry}
use Rattle.sp_engine.specs.declared.journals.Entry.TheVariants as entry
use Rattle.sp_engine.specs.declared.journals.FetchNote.TheVariants as note
use Rattle.sp_meaning.specs.declared.models.NamedModel.{NamedModel}
use Rattle.sp_printing.specs.Printing.{CanPrint, named_of}
use Rattle.sp_shell.proofs.RunLemmas.{first_noted, listing_notes, can_print, list_ended, same_named, wanting_list}
use Rattle.sp_shell.proofs.runs.list_model.Goals as goal

pub end_with_list-requires-clause-printable : goal.end_with_list-requires-clause-printable
end_with_list-requires-clause-printable g c =
    let same : named_of c.in-Ok.listing.names c.model.result.now ≡ c.args.named = ap (named_of c.in-Ok.listing.names) c.model.ensures.model ∙ same_named c.in-Ok.ensures in
    subst (λ (n : NamedModel). CanPrint n c.append.new.self.items c.in-Ok.listing.reply) (sym same)
    (can_print c.runs_are_printable.ensures (λ x f. c.feasible_is_within.ensures _ x c.parts-parts.ensures.lawful f) c.requires.named (note.Bytes c.args.bytes) c.append.new.self.items c.in-Ok.ensures
    (first_noted c.in-Ok.listing.notes.items _ c.in-Ok-append.ensures.items c.push_note.ensures c.requires.empty))

pub returns-clause-notes : goal.returns-clause-notes
returns-clause-notes g c =
    listing_notes (entry.Fetched (note.Bytes c.args.bytes)) c.end_with_list.result.journal.entries c.in-Ok.ensures
    (c.end_with_list.ensures.entries ∙ first_noted c.in-Ok.listing.notes.items _ c.in-Ok-append.ensures.items c.push_note.ensures c.requires.empty)

pub returns-clause-ends : goal.returns-clause-ends
returns-clause-ends g c =
    list_ended c.printed_replies_are_told.ensures c.in-Ok.ensures
    (first_noted c.in-Ok.listing.notes.items (entry.Fetched (note.Bytes c.args.bytes)) c.in-Ok-append.ensures.items c.push_note.ensures c.requires.empty)
    c.end_with_list.ensures.entries (named_of c.in-Ok.listing.names c.model.result.now) (ap (named_of c.in-Ok.listing.names) c.model.ensures.model ∙ same_named c.in-Ok.ensures)
    c.end_with_list.ensures.answered

pub returns-in-Err-clause-ends : goal.returns-in-Err-clause-ends
returns-in-Err-clause-ends g c =
    wanting_list g.K.Sink.takes_memory (state_of g.K.Sink (inner_of c.args.buffer.now)) c.end_with-in-Err.ensures.status
    (c.end_with-in-Err.ensures.entries ∙ c.in-Err.ensures.items ∙ c.push_note.ensures ∙ ap (λ (es : List Entry). es ++ entry.Fetched (note.Bytes c.args.bytes) ∷ []) c.requires.empty)
