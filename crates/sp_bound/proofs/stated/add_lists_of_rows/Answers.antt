use Rattle.std.proofs.Common.{◌≡◌, ◌+◌, ap, arith, drop, suc, sym, ◌∙◌}
use Rattle.std.proofs.lemmas.List.{drop_all}
use Rattle.sp_model.specs.declared.parts.Row.{Row}
use Rattle.sp_bound.specs.StatedLists.{lists_of_rows}
use Rattle.sp_bound.proofs.StatingLemmas.{adding_start, adding_stop, rows_turn}
use Rattle.sp_bound.proofs.TurnLemmas.{next_item}
use Rattle.sp_bound.proofs.stated.add_lists_of_rows.Goals as goal

pub loop-at-init : goal.loop-at-init
loop-at-init c = adding_start (lists_of_rows c.args.cost.now 0 c.args.rows.now) c.args.lists.now.items

pub add_lists_of_terms-requires-clause-terms : goal.add_lists_of_terms-requires-clause-terms
add_lists_of_terms-requires-clause-terms c =
    rw c.as_slice.ensures (c.requires.terms c.loop-at.at c.index-rows-at.result c.loop-at-test.true)

pub loop-at-preserved : goal.loop-at-preserved
loop-at-preserved c =
    let rest = drop (c.loop-at.at + 1) c.args.rows.now in
    let d = next_item c.args.rows.now c.loop-at.at c.index-rows-at.result c.loop-at-test.true c.index-rows-at.is in
    rows_turn c.args.cost.now (lists_of_rows c.args.cost.now 0 c.args.rows.now) c.loop-at.at (c.loop-at.at + 1) c.new.result c.index-rows-at.result c.as_slice.result.now rest c.args.lists.now.items c.loop-at.lists.items c.add_lists_of_terms.new.lists.items
    (let e : c.loop-at.at + 1 ≡ suc c.loop-at.at = omega arith in e) (let f : c.new.result ≡ c.loop-at.at = omega (arith, c.new.ensures) in f) (c.as_slice.ensures ∙ ap (λ (row : Row). row.terms) (sym c.index-rows-at.is)) c.in_ok-add_lists_of_terms.ensures (rw d at c.loop-at.invariant)

pub returns : goal.returns
returns c =
    let d = drop_all c.loop-at.at c.args.rows.now c.loop-at-test.false in
    adding_stop (lists_of_rows c.args.cost.now 0 c.args.rows.now) c.args.lists.now.items c.loop-at.lists.items (rw d at c.loop-at.invariant)
