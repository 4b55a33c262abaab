use Rattle.std.proofs.Common.{rules, of_calls}
use Rattle.std.proofs.lemmas.Fn.{filter_same}
use Rattle.sp_pool.specs.InnerRanks.{is_held}
use Rattle.sp_pool.proofs.rankings.keep_held.Goals as goal

pub returns-clause-items : goal.returns-clause-items
returns-clause-items c = filter_same _ (is_held c.args.line.now.items) _ (λ x b f k. search (rules, of_calls)) _ _ c.retain.ensures.filtered
