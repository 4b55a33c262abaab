use Rattle.std.proofs.Common.{not}
use Rattle.std.specs.Str.{bytes_eq}
use Rattle.sp_filter.specs.declared.holding.Held.{Held}
use Rattle.sp_filter.specs.Held.{FilterList, IsOrderly}
use Rattle.sp_filter.proofs.OrderlyLemmas.{orderly_filtered}
use Rattle.sp_filter.proofs.holding.Filters.remove.Goals as goal

pub invariant_of-self : goal.invariant_of-self
invariant_of-self c =
    let s : FilterList = record { held = c.self.inside.held.items; next = c.self.inside.next } in
    rw c.drop_named.ensures (orderly_filtered s (λ (h : Held). not (bytes_eq h.name c.as_slice-in-Some.result.now)) c.self.invariant)
