use Rattle.std.proofs.Common.{rules, FitsSigned, to_z-of_z}
use Rattle.std.specs.Int.{w64}
use Rattle.sp_cover.specs.Cover.{IsOpenAt}
use Rattle.sp_cover.proofs.MoveLemmas.{split-screens, split-searches}
use Rattle.sp_cover.proofs.searches.Search.split.Goals as goal

pub returns-clause-search : goal.returns-clause-search
returns-clause-search c =
    let leaf : IsOpenAt c.self.inside.tree.nodes c.args.id = rw (← c.self.view_is) at c.requires.known in
    let fits : FitsSigned w64 c.args.at.now = search rules in
    let ok = simp (to_z-of_z fits) at c.split.ensures.ok in
    rw (← c.self.view_is) (λ m search free. split-searches c.extensions_last.ensures.marks c.split.result m (record { tree = c.self.inside.tree; found = c.self.inside.found.items; proved = c.self.inside.proved; best = c.self.inside.best }) c.split.new.self c.args.id c.args.var c.args.at.now ok c.split.ensures.err c.split.ensures.grown c.split.ensures.extends leaf search free)

pub returns-clause-screened : goal.returns-clause-screened
returns-clause-screened c =
    let leaf : IsOpenAt c.self.inside.tree.nodes c.args.id = rw (← c.self.view_is) at c.requires.known in
    let fits : FitsSigned w64 c.args.at.now = search rules in
    let ok = simp (to_z-of_z fits) at c.split.ensures.ok in
    rw (← c.self.view_is) (λ fs screened. split-screens c.split.result fs c.self.inside.tree c.split.new.self c.args.id c.args.var c.args.at.now ok c.split.ensures.err c.split.ensures.extends leaf screened)
