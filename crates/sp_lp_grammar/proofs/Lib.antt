pub mod BackLemmas
pub mod CompleteLemmas
pub mod FrontLemmas
pub mod GoLemmas
pub mod LexLemmas
pub mod RestRules
pub mod SoundLemmas
pub mod TailLemmas
