pub mod ToldLemmas
pub mod StreamLemmas
pub mod WritingLemmas
pub mod BufferLemmas
pub mod LineLemmas
pub mod FieldLemmas
mod EntryLemmas
