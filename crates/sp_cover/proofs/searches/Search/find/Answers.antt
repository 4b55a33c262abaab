use Rattle.std.proofs.Common.{rules, ◌≡◌, ◌+◌, ◌++◌, ◌∷◌, [], length}
use Rattle.sp_tree.specs.declared.nodes.Kind.TheVariants.{Point}
use Rattle.sp_cover.specs.Cover.{IsOpenAt}
use Rattle.sp_cover.specs.Moves.{best_after}
use Rattle.sp_cover.proofs.CloseLemmas.{closing-screens}
use Rattle.sp_cover.proofs.FindLemmas.{finding-keeps}
use Rattle.sp_cover.proofs.searches.Search.find.Goals as goal

pub returns-clause-search : goal.returns-clause-search
returns-clause-search c =
    let leaf : IsOpenAt c.self.inside.tree.nodes c.args.id = rw (← c.self.view_is) at c.requires.known in
    let count : c.len.result ≡ length c.self.inside.found.items = search rules in
    let is = rw count at c.close.ensures.closed in
    let grown = rw is at c.close.ensures.grown in
    let extends = rw is at c.close.ensures.extends in
    let pushed : c.push.new.self.items ≡ c.self.inside.found.items ++ (c.args.found ∷ []) = c.in_ok-push.ensures.items in
    let best : c.best_with-best.result ≡ best_after c.self.inside.proved c.self.inside.best c.args.found.value = c.best_with-best.ensures in
    rw (← c.self.view_is, is, pushed, best) (λ m search may. finding-keeps c.extensions_last.ensures.marks m (record { tree = c.self.inside.tree; found = c.self.inside.found.items; proved = c.self.inside.proved; best = c.self.inside.best }) c.args.id c.args.found search grown extends leaf.known leaf.open_is may)

pub returns-clause-screened : goal.returns-clause-screened
returns-clause-screened c =
    let is = c.close.ensures.closed in
    rw (← c.self.view_is, is) (λ fs screened. closing-screens fs c.self.inside.tree c.args.id (Point (c.len.result + 1)) screened tt)
