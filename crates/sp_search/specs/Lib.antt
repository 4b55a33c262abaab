pub mod States
pub mod Steps
pub mod InnerSteps
pub mod InnerAims
pub mod Prepared
pub mod Runs
pub mod Measures
