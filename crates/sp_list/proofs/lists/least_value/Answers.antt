use Rattle.std.proofs.Common.{arith, rules}
use Rattle.std.proofs.lemmas.Grind.{common_steps}
use Rattle.sp_list.proofs.EnoughLemmas.{optimum_from}
use Rattle.sp_list.proofs.lists.least_value.Goals as goal

pub returns-clause-empty : goal.returns-clause-empty
returns-clause-empty c = grind (arith, common_steps)

pub returns-clause-reached : goal.returns-clause-reached
returns-clause-reached c = search rules

pub returns-clause-least : goal.returns-clause-least
returns-clause-least c = search rules

pub returns-clause-optimum : goal.returns-clause-optimum
returns-clause-optimum c m all =
    optimum_from m c.args.found.now c.min.result (returns-clause-empty c) (returns-clause-reached c) (returns-clause-least c) all
