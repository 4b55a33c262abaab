use Rattle.std.proofs.Common.{◌≡◌, ◌≤ℤ◌, sym, subst, All, List, to_z-of_z, FitsSigned}
use Rattle.std.specs.Int.{w128}
use Rattle.sp_list.specs.declared.found.Found.{Found}
use Rattle.sp_list.specs.Lists.{IsFoundEnough, found_within}
use Rattle.sp_list.proofs.EnoughLemmas.{enough_within, all_within}
use Rattle.sp_list.proofs.lists.list_from.Goals as goal

pub returns-clause-list : goal.returns-clause-list
returns-clause-list c m enough =
    let fits : FitsSigned w128 c.args.cut = c.ranges.cut in
    let kept : c.keep_within.new.found.items ≡ found_within c.args.cut c.args.found.items = simp to_z-of_z at c.keep_within.ensures in
    c.order.ensures.list m c.args.cut
    (subst (λ (fs : List Found). IsFoundEnough m c.args.cut fs) (sym kept) (enough_within m c.args.cut c.args.found.items enough))
    (subst (λ (fs : List Found). All (λ (f : Found). f.value ≤ℤ c.args.cut) fs) (sym kept) (all_within c.args.cut c.args.found.items))
