use Rattle.std.proofs.Common.{◌≡◌, false, sym, ap, ◌∙◌}
use Rattle.std.specs.List.{list_any}
use Rattle.sp_bound.specs.StatedLists.{is_same}
use Rattle.sp_bound.proofs.StatingLemmas.{adds_fresh}
use Rattle.sp_bound.proofs.stated.add_new.Goals as goal

pub returns : goal.returns
returns c =
    let listed : list_any (is_same c.args.list) c.args.lists.now.items ≡ false = ap (list_any (is_same c.args.list)) (sym c.as_slice.ensures.value) ∙ sym c.is_listed.ensures ∙ c.if-is_listed.false in
    rw c.in_ok-push.ensures.items (adds_fresh c.args.list c.args.lists.now.items c.requires listed)
