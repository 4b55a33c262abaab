use Rattle.std.proofs.Common.{◌≤◌, ◌∷◌, [], ◌+◌, ap, arith, drop, length}
use Rattle.std.proofs.lemmas.List.{drop_all}
use Rattle.sp_bound.specs.StatedLists.{lists_of_terms}
use Rattle.sp_bound.proofs.StatingLemmas.{adding_full, adding_start, adding_stop, adding_turn, terms_split}
use Rattle.sp_bound.proofs.TurnLemmas.{next_item}
use Rattle.sp_bound.proofs.stated.add_lists_of_terms.Goals as goal

pub loop-term-init : goal.loop-term-init
loop-term-init c = adding_start (lists_of_terms c.args.cost.now c.args.row c.args.terms.now) c.args.lists.now.items

pub loop-term-preserved : goal.loop-term-preserved
loop-term-preserved c =
    let rest = drop (c.loop-term.term-index + 1) c.args.terms.now in
    let d = next_item c.args.terms.now c.loop-term.term-index c.term-item.result c.loop-term-test.true c.term-item.is in
    adding_turn (lists_of_terms c.args.cost.now c.args.row c.args.terms.now) (lists_of_terms c.args.cost.now c.args.row (c.term-item.result ∷ [])) (lists_of_terms c.args.cost.now c.args.row rest) (lists_of_terms c.args.cost.now c.args.row (c.term-item.result ∷ rest)) c.args.lists.now.items c.loop-term.lists.items c.add_list_of.new.lists.items
    (terms_split c.args.cost.now c.args.row c.term-item.result rest) c.in_ok-add_list_of.ensures (rw d at c.loop-term.invariant)

pub returns-then-is_full : goal.returns-then-is_full
returns-then-is_full c =
    let full : 65 ≤ length c.as_slice.result.now = c.is_full.ensures.0 c.if-is_full.true in
    adding_full (lists_of_terms c.args.cost.now c.args.row c.args.terms.now) (lists_of_terms c.args.cost.now c.args.row (drop c.loop-term.term-index c.args.terms.now)) c.args.lists.now.items c.loop-term.lists.items (omega (arith, full, ap length c.as_slice.ensures.value)) c.loop-term.invariant

pub returns : goal.returns
returns c =
    let d = drop_all c.loop-term.term-index c.args.terms.now c.loop-term-test.false in
    adding_stop (lists_of_terms c.args.cost.now c.args.row c.args.terms.now) c.args.lists.now.items c.loop-term.lists.items (rw d at c.loop-term.invariant)
