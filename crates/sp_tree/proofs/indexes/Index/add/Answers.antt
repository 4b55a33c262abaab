use Rattle.std.proofs.Common.{rules, ◌≡◌, [], ◌∷◌, ◌++◌, length, ap, ◌∙◌}
use Rattle.sp_tree.proofs.IndexLemmas.{linked-append}
use Rattle.sp_tree.proofs.indexes.Index.add.Goals as goal

pub link-requires-clause-linked : goal.link-requires-clause-linked
link-requires-clause-linked c =
    let prints : c.as_slice.result.now ≡ c.self.inside.prints.items ++ (c.args.print ∷ []) = c.as_slice.ensures.value ∙ c.push_reserved.ensures.items ∙ ap (λ l. l ++ (c.args.print ∷ [])) c.reserve.ensures.items in
    let next : c.push_reserved-then-place-len.new.self.items ≡ c.self.inside.next.items ++ (0 ∷ []) = c.push_reserved-then-place-len.ensures.items ∙ ap (λ l. l ++ (0 ∷ [])) c.reserve-2.ensures.items in
    let place : c.len-place.result ≡ length c.self.inside.prints.items = search rules in
    rw (prints, next, place) (linked-append c.self.inside.prints.items (length c.self.inside.heads.items) c.self.inside.next.items c.self.inside.heads.items c.args.print 0 c.self.invariant.linked c.self.invariant.long)
