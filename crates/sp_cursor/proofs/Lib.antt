pub mod ObjectiveLemmas
pub mod CursorLemmas
