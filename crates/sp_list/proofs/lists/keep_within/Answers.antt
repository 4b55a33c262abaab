use Rattle.std.proofs.Common.{rules, int_le}
use Rattle.std.proofs.lemmas.Fn.{filter_same}
use Rattle.sp_list.specs.declared.found.Found.{Found}
use Rattle.sp_list.proofs.lists.keep_within.Goals as goal

pub returns : goal.returns
returns c = filter_same _ (λ (f : Found). int_le f.value c.args.cut) _ (λ x b f' k. search rules) _ _ c.retain.ensures.filtered
