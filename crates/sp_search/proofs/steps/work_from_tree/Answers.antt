use Rattle.std.proofs.Common.{arith, ◌≡◌}
use Rattle.sp_model.specs.Models.{root_of}
use Rattle.sp_activity.specs.Within.{IsUnder}
use Rattle.sp_tree.specs.Splits.{box_at}
use Rattle.sp_search.proofs.StepLemmas.{node-under, stated-known}
use Rattle.sp_search.proofs.steps.work_from_tree.Goals as goal

pub closing_kind-kind-requires-clause-under : goal.closing_kind-kind-requires-clause-under
closing_kind-kind-requires-clause-under c =
    let hand : c.in_ok-bounds.bounds ≡ box_at c.args.search.now.tree.boxes c.args.node = rw c.tree.ensures at c.in_ok-bounds.ensures in
    rw hand (node-under c.trees_divide.ensures.partition c.args.model.now c.args.search.now c.args.node c.requires.state.search c.requires.known)

pub closing_kind-kind-requires-clause-table : goal.closing_kind-kind-requires-clause-table
closing_kind-kind-requires-clause-table c = stated-known c.args.model.now c.args.search.now c.args.stated c.requires.state.stated

pub advance-requires-clause-ready : goal.advance-requires-clause-ready
advance-requires-clause-ready c =
    let hand : c.in_ok-bounds.bounds ≡ box_at c.args.search.now.tree.boxes c.args.node = rw c.tree.ensures at c.in_ok-bounds.ensures in
    record {
      lawful = c.requires.state.lawful;
      search = c.requires.state.search;
      lists = c.requires.state.stated;
      table = stated-known c.args.model.now c.args.search.now c.args.stated c.requires.state.stated;
      leaf = c.requires.known;
      in_hand = hand;
      under = rw hand (node-under c.trees_divide.ensures.partition c.args.model.now c.args.search.now c.args.node c.requires.state.search c.requires.known);
      fits = c.requires.fits.phase;
      filters = c.requires.fits.filters;
    }

pub advance-requires-clause-short : goal.advance-requires-clause-short
advance-requires-clause-short c =
    let hand : c.in_ok-bounds.bounds ≡ box_at c.args.search.now.tree.boxes c.args.node = rw c.tree.ensures at c.in_ok-bounds.ensures in
    let under : IsUnder (root_of c.args.model.now) c.in_ok-bounds.bounds = rw hand (node-under c.trees_divide.ensures.partition c.args.model.now c.args.search.now c.args.node c.requires.state.search c.requires.known) in
    let long = under.long in
    let short = c.root_is_short.ensures.short c.args.model.now c.requires.state.lawful in
    omega (arith, long, short)
