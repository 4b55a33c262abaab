use Rattle.sp_cover.proofs.ReopenLemmas.{keeping-keeps}
use Rattle.sp_cover.proofs.searches.Search.keep.Goals as goal

pub returns-clause-search : goal.returns-clause-search
returns-clause-search c =
    rw (← c.self.view_is) (λ m search. keeping-keeps m (record { tree = c.self.inside.tree; found = c.self.inside.found.items; proved = c.self.inside.proved; best = c.self.inside.best }) c.keep.new.self search c.keep.ensures.grown
    (record { boxes = c.keep.ensures.boxes; nodes = c.keep.ensures.nodes; lists = c.keep.ensures.extends.table }))
