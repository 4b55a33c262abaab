use Rattle.sp_search.proofs.search_laws.searches_are_small.Goals as goal

pub returns-clause-nodes : goal.returns-clause-nodes
returns-clause-nodes c = λ s state. rw state.search.root at (c.trees_divide.ensures.size s.search.tree state.search.grown)

pub returns-clause-found : goal.returns-clause-found
returns-clause-found c = λ s state. c.found_points_are_few.ensures.few s.model s.search state.search
