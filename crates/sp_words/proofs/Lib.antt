pub mod CutLemmas
pub mod EntryLemmas
pub mod FoldLemmas
pub mod PieceLemmas
pub mod RowLemmas
pub mod TableLemmas
pub mod TestLemmas
pub mod WordLemmas
