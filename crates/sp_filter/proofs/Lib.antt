pub mod ClosingLemmas
pub mod EndLemmas
pub mod FitLemmas
pub mod NarrowLemmas
pub mod OrderlyLemmas
pub mod TermLemmas
pub mod TotalLemmas
