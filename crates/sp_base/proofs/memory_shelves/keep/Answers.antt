use Rattle.std.proofs.Common.{◌≡◌, ℕ, List, [], ◌∷◌, ◌++◌, set, None, Some, sym, ap, ◌∙◌}
use Rattle.std.specs.Prelude.{Vec}
use Rattle.std.specs.declared.alloc.Global.{Global}
use Rattle.std.specs.List.{position}
use Rattle.sp_base.specs.Memory.{files_of}
use Rattle.sp_base.specs.Shelf.{with_file}
use Rattle.sp_base.proofs.EntryLemmas.{is_named, files_of_set, files_of_push}
use Rattle.sp_base.proofs.memory_shelves.keep.Goals as goal

pub returns-in-Some-clause-ok : goal.returns-in-Some-clause-ok
returns-in-Some-clause-ok c =
    let at : position (is_named c.args.name.now) c.args.entries.now.items ≡ Some c.in-Some.place =
    sym (c.in-Some.ensures ∙ ap (λ (n : List ℕ). position (is_named n) c.as_slice.result.now) c.as_slice-2.ensures
    ∙ ap (position (is_named c.args.name.now)) c.as_slice.ensures.value) in
    ap (λ (entry : List ℕ × Vec ℕ Global). files_of (set c.args.entries.now.items c.in-Some.place (entry.0, c.in_ok-copy.copy))) c.index_mut.ensures.value
    ∙ files_of_set c.args.entries.now.items c.args.name.now c.in-Some.place c.index_mut.result.now c.in_ok-copy.copy at
    ∙ ap (with_file (files_of c.args.entries.now.items) c.args.name.now) c.in_ok-copy.ensures.items

pub returns-in_ok-push-in-None-clause-ok : goal.returns-in_ok-push-in-None-clause-ok
returns-in_ok-push-in-None-clause-ok c =
    let none : position (is_named c.args.name.now) c.args.entries.now.items ≡ None =
    sym (c.in-None.ensures ∙ ap (λ (n : List ℕ). position (is_named n) c.as_slice.result.now) c.as_slice-2.ensures
    ∙ ap (position (is_named c.args.name.now)) c.as_slice.ensures.value) in
    let named : c.from_vec.result ≡ c.args.name.now = c.from_vec.ensures ∙ c.in_ok-name-in-None.ensures.items ∙ c.as_slice-in-None.ensures in
    ap files_of c.in_ok-push-in-None.ensures.items
    ∙ ap (λ (n : List ℕ). files_of (c.args.entries.now.items ++ (n, c.in_ok-copy.copy) ∷ [])) named
    ∙ files_of_push c.args.entries.now.items c.args.name.now c.in_ok-copy.copy none
    ∙ ap (with_file (files_of c.args.entries.now.items) c.args.name.now) c.in_ok-copy.ensures.items
