use Rattle.std.proofs.Common.{◌+◌, ap, length}
use Rattle.sp_cover.specs.Moves.{found_as}
use Rattle.sp_search.proofs.BoxLemmas.{one-point}
use Rattle.sp_search.proofs.StepLemmas.{finds, settled-same}
use Rattle.sp_search.proofs.steps.find_only.Goals as goal

pub find-requires-clause-one : goal.find-requires-clause-one
find-requires-clause-one c = rw c.requires.ready.in_hand at (one-point c.args.bounds.now c.requires.single)

pub returns-clause-done : goal.returns-clause-done
returns-clause-done c =
    let s = c.args.search.now in
    let f = finds c.sums_meet_at_a_point.ensures c.args.model.now s c.args.stated c.args.goal.now c.args.bounds.now c.args.node c.in_ok-found.found c.requires.ready c.requires.unclosed c.requires.single c.in_ok-found.ensures in
    let may = rw c.requires.ready.in_hand at f.may in
    let is = c.in_ok-find.ensures.ok in
    record {
      steps = record {
        point = c.in_ok-found.found;
        may = may;
        wanted = f.wanted;
        next = ap (λ xs. length xs + 1) c.found.ensures;
        found = settled-same c.find.new.self (found_as s c.args.node c.in_ok-found.found) is;
      };
      search = c.in_ok-find.ensures.search c.args.model.now c.requires.ready.search may;
      extends = c.in_ok-find.ensures.extends;
      phase = ap (λ t. t.proved) is;
    }
