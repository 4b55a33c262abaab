pub mod ClapLemmas
pub mod DashLemmas
pub mod OptionLemmas
pub mod GivesLemmas
