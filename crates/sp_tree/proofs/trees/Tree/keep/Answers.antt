use Rattle.sp_tree.specs.InnerTrees.{boxes_of}
use Rattle.sp_tree.proofs.KeepLemmas.{kept-longer, extends-longer}
use Rattle.sp_tree.proofs.FinalLemmas.{keeps-self}
use Rattle.sp_tree.proofs.trees.Tree.keep.Goals as goal

pub invariant_of-self : goal.invariant_of-self
invariant_of-self c = kept-longer c.self.inside.root c.self.inside.cuts.items c.self.inside.nodes.items c.self.inside.table c.keep.new.self c.self.inside.first c.keep.ensures.longer c.keep.ensures.table c.self.invariant

pub returns-clause-extends : goal.returns-clause-extends
returns-clause-extends c = rw (← c.self.view_is) (extends-longer (boxes_of c.self.inside.root c.self.inside.cuts.items) c.self.inside.nodes.items c.self.inside.table c.keep.new.self c.keep.ensures.longer)

pub returns-clause-grown : goal.returns-clause-grown
returns-clause-grown c = (kept-longer c.self.inside.root c.self.inside.cuts.items c.self.inside.nodes.items c.self.inside.table c.keep.new.self c.self.inside.first c.keep.ensures.longer c.keep.ensures.table c.self.invariant).grown

pub returns-clause-settled : goal.returns-clause-settled
returns-clause-settled c = rw (← c.self.view_is) (keeps-self c.self.inside.nodes.items)
