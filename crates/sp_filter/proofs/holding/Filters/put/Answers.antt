use Rattle.std.proofs.Common.{◌≡◌, ◌+◌, ◌++◌, [], ◌∷◌, false, sym, subst}
use Rattle.sp_filter.specs.declared.holding.Held.{Held}
use Rattle.sp_filter.specs.Held.{FilterList, IsOrderly, HasRoom, is_taken}
use Rattle.sp_filter.proofs.OrderlyLemmas.{orderly_with}
use Rattle.sp_filter.proofs.holding.Filters.put.Goals as goal

pub invariant_of-self : goal.invariant_of-self
invariant_of-self c =
    let s : FilterList = record { held = c.self.inside.held.items; next = c.self.inside.next } in
    let h : Held = record { id = c.new-id.result; name = c.args.name; filter = c.args.filter } in
    let made : IsOrderly (record { held = c.self.inside.held.items ++ h ∷ []; next = c.self.inside.next + 1 }) =
    orderly_with s h c.self.invariant
    (subst (λ (v : FilterList). HasRoom v) (sym c.self.view_is) c.requires.room)
    (subst (λ (v : FilterList). is_taken v.held c.args.name ≡ false) (sym c.self.view_is) c.requires.free)
    c.new-id.ensures in
    rw c.in-Ok.ensures.items made
