use Rattle.sp_cover.specs.Cover.{IsOpenAt}
use Rattle.sp_cover.proofs.CloseLemmas.{closing-keeps}
use Rattle.sp_cover.proofs.searches.Search.close.Goals as goal

pub returns-clause-search : goal.returns-clause-search
returns-clause-search c =
    let leaf : IsOpenAt c.self.inside.tree.nodes c.args.id = rw (← c.self.view_is) at c.requires.known in
    let is = c.close.ensures.closed in
    let grown = rw is at c.close.ensures.grown in
    let extends = rw is at c.close.ensures.extends in
    rw (← c.self.view_is, is) (λ m aim search fits may. closing-keeps c.extensions_last.ensures.marks m (record { tree = c.self.inside.tree; found = c.self.inside.found.items; proved = c.self.inside.proved; best = c.self.inside.best }) aim c.args.id c.args.kind search grown extends fits leaf.known leaf.open_is may)
