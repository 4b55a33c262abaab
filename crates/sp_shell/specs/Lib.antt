pub mod Runs
pub mod InnerEndings
pub mod InnerRuns
