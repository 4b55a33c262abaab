-- What is kept keeps its order.
use Rattle.std.proofs.Common.{◌∙◌, ap, filter, rules, of_calls}
use Rattle.std.proofs.lemmas.Fn.{filter_same}
use Rattle.sp_pool.specs.InnerSerials.{Tally}
use Rattle.sp_pool.proofs.SerialLemmas.{rising_kept, listing}
use Rattle.sp_pool.proofs.serials.Serials.retain.Goals as goal

pub invariant_of-self : goal.invariant_of-self
invariant_of-self c =
    rising_kept (listing c.args.serials.now) c.self.inside.sorted.items c.retain.new.self.items c.self.invariant (filter_same _ (listing c.args.serials.now) _ (λ x b f k. search (rules, of_calls)) _ _ c.retain.ensures.filtered)

pub returns-clause-items : goal.returns-clause-items
returns-clause-items c = filter_same _ (listing c.args.serials.now) _ (λ x b f k. search (rules, of_calls)) _ _ c.retain.ensures.filtered ∙ ap (λ (t : Tally). filter (listing c.args.serials.now) t.items) c.self.view_is
