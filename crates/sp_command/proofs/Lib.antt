pub mod CutLemmas
pub mod SumLemmas
