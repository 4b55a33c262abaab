-- The cut of a state under gaps, and when its tree proves the list.
use Rattle.std.specs.Prelude.{ℕ, Option, None, Some, ℤ}
use Rattle.sp_model.specs.declared.gaps.Gaps.{Gaps}
use Rattle.sp_model.specs.Cuts.{IsGap, ceiling, cut_of}
use Rattle.sp_filter.specs.Held.{FilterList}
use Rattle.sp_tree.specs.Trees.{IsComplete, is_held}
use Rattle.sp_search.specs.States.{AreFit, IsCovered, StateOf}

-- the cut of a least value under the gaps; where there is none, no cut is greater
abbrev pub cut_at : Gaps → ℕ → Option ℤ → ℤ
cut_at gaps scale None = ceiling
cut_at gaps scale (Some best) = cut_of best gaps scale

-- the cut of the least value that the state found
abbrev pub cut_under : Gaps → StateOf → ℤ
cut_under gaps s = cut_at gaps s.model.scale s.search.best

-- each leaf is licensed for this cut and the filters held
abbrev pub IsCompleteFor : Gaps → FilterList → StateOf → Type 0
IsCompleteFor gaps fs s = IsComplete (cut_under gaps s) (is_held fs) s.search.tree.nodes

-- what a run needs: gaps as they can be written, filters for the model, and the cover with them
pub record CanRun (gaps : Gaps) (fs : FilterList) (s : StateOf) : Type 0 where
  pub abs : IsGap gaps.abs
  pub rel : IsGap gaps.rel
  pub fit : AreFit s.model fs
  pub covered : IsCovered fs s
