pub mod CollectedLemmas
pub mod MergeLemmas
pub mod ScaleLemmas
