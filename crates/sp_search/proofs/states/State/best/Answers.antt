use Rattle.std.proofs.Common.{arith, ◌≡◌, ◌≤◌, ap, length}
use Rattle.sp_search.proofs.states.State.best.Goals as goal

pub first_best-requires-clause-few : goal.first_best-requires-clause-few
first_best-requires-clause-few c =
    let few : length c.self.inside.search.found ≤ length c.self.inside.search.tree.nodes = c.found_points_are_few.ensures.few c.self.inside.model c.self.inside.search c.self.invariant.search in
    let found : length c.found.result.now ≡ length c.self.inside.search.found = ap (λ xs. length xs) c.found.ensures in
    let nodes : length c.tree.result.now.nodes ≡ length c.self.inside.search.tree.nodes = ap (λ t. length t.nodes) c.tree.ensures in
    let size = c.size-size.ensures.size in
    let small = c.size-size.type_inv in
    omega (arith, few, found, nodes, size, small)
