use Rattle.std.proofs.Common.{rules, ◌≡◌, FitsSigned, map, to_z-of_z}
use Rattle.std.specs.Int.{w128}
use Rattle.sp_tree.specs.Trees.{is_held, reopened}
use Rattle.sp_cover.specs.Moves.{reopened_tree}
use Rattle.sp_cover.proofs.MoveLemmas.{tree-is}
use Rattle.sp_cover.proofs.ReopenLemmas.{reopening-keeps, reopening-screens}
use Rattle.sp_cover.proofs.searches.Search.reopen.Goals as goal

same : (c : goal.After-reopen) → c.reopen.new.self ≡ reopened_tree c.args.cut (is_held c.args.filters.now) c.self.inside.tree
same c =
    let fits : FitsSigned w128 c.args.cut = search rules in
    let nodes : c.reopen.new.self.nodes ≡ map (reopened c.args.cut (is_held c.args.filters.now)) c.self.inside.tree.nodes = rw (to_z-of_z fits) at c.reopen.ensures.nodes in
    tree-is c.reopen.new.self c.self.inside.tree.boxes (map (reopened c.args.cut (is_held c.args.filters.now)) c.self.inside.tree.nodes) c.self.inside.tree.lists c.reopen.ensures.boxes nodes c.reopen.ensures.lists

pub returns-clause-search : goal.returns-clause-search
returns-clause-search c =
    let is = same c in
    let grown = rw is at c.reopen.ensures.grown in
    let extends = rw is at c.reopen.ensures.extends in
    let proved = rw (← c.self.view_is) at c.requires in
    rw (← c.self.view_is, is) (λ m search. reopening-keeps c.extensions_last.ensures.marks m (record { tree = c.self.inside.tree; found = c.self.inside.found.items; proved = c.self.inside.proved; best = c.self.inside.best }) c.args.cut (is_held c.args.filters.now) search proved grown extends)

pub returns-clause-screened : goal.returns-clause-screened
returns-clause-screened c = rw (← c.self.view_is, same c) (λ fs screened. reopening-screens fs c.self.inside.tree c.args.cut (is_held c.args.filters.now) screened)
