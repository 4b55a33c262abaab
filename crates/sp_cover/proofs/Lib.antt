pub mod BoxLemmas
pub mod EachLemmas
pub mod CloseLemmas
pub mod FindLemmas
pub mod SplitLemmas
pub mod ReopenLemmas
pub mod EndLemmas
pub mod MoveLemmas
