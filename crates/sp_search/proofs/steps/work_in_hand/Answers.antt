use Rattle.std.proofs.Common.{arith, ◌≡◌, ◌∙◌, ap, subst, sym}
use Rattle.sp_tree.specs.Splits.{box_at}
use Rattle.sp_cursor.specs.Cursors.{IsHand}
use Rattle.sp_search.proofs.StepLemmas.{stated-known}
use Rattle.sp_search.proofs.steps.work_in_hand.Goals as goal

pub bounds_in-bounds-requires : goal.bounds_in-bounds-requires
bounds_in-bounds-requires c =
    (c.aim_at-is_aimed.ensures.hand (box_at c.args.search.now.tree.boxes c.args.cursor.now.node) c.requires.cursor.hand).truths

pub kept_kind-kind-requires-clause-hand : goal.kept_kind-kind-requires-clause-hand
kept_kind-kind-requires-clause-hand c =
    let h = c.aim_at-is_aimed.ensures.hand (box_at c.args.search.now.tree.boxes c.args.cursor.now.node) c.requires.cursor.hand in
    subst (IsHand c.args.model.now c.aim_at-is_aimed.new.hand) (sym (c.bounds_in-bounds.ensures.same ∙ h.truths_over)) h

pub kept_kind-kind-requires-clause-table : goal.kept_kind-kind-requires-clause-table
kept_kind-kind-requires-clause-table c = stated-known c.args.model.now c.args.search.now c.args.stated c.requires.state.stated

pub advance-requires-clause-ready : goal.advance-requires-clause-ready
advance-requires-clause-ready c =
    let boxes = c.args.search.now.tree.boxes in
    let h = c.aim_at-is_aimed.ensures.hand (box_at boxes c.args.cursor.now.node) c.requires.cursor.hand in
    record {
      lawful = c.requires.state.lawful;
      search = c.requires.state.search;
      lists = c.requires.state.stated;
      table = stated-known c.args.model.now c.args.search.now c.args.stated c.requires.state.stated;
      leaf = c.requires.known;
      in_hand = c.bounds_in-bounds.ensures.same ∙ h.truths_over ∙ ap (λ i. box_at boxes i) c.requires.here;
      under = c.bounds_in-bounds.ensures.under;
      fits = c.requires.fits.phase;
      filters = c.requires.fits.filters;
    }

pub advance-requires-clause-short : goal.advance-requires-clause-short
advance-requires-clause-short c =
    let long = c.bounds_in-bounds.ensures.under.long in
    let short = c.root_is_short.ensures.short c.args.model.now c.requires.state.lawful in
    omega (arith, long, short)

pub returns-clause-cursor : goal.returns-clause-cursor
returns-clause-cursor c =
    let h = c.requires.cursor in
    record {
      hand = c.aim_at-is_aimed.ensures.hand (box_at c.args.search.now.tree.boxes c.args.cursor.now.node) h.hand;
      known = h.known;
      back = h.back;
      root = h.root;
    }
