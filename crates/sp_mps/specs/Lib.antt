pub mod Facts
pub mod Checks
pub mod Drafts
pub mod Verdicts
pub mod inner
