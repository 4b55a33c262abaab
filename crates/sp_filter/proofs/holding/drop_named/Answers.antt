use Rattle.std.proofs.Common.{rules, of_calls, not}
use Rattle.std.proofs.lemmas.Fn.{filter_same}
use Rattle.std.specs.Str.{bytes_eq}
use Rattle.sp_filter.specs.declared.holding.Held.{Held}
use Rattle.sp_filter.proofs.holding.drop_named.Goals as goal

pub returns : goal.returns
returns c = filter_same _ (λ (h : Held). not (bytes_eq h.name c.args.name.now)) _ (λ x b f k. search (rules, of_calls)) _ _ c.retain.ensures.filtered
