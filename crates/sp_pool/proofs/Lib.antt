pub mod BestLemmas
pub mod LineLemmas
pub mod RankLemmas
pub mod SweepLemmas
pub mod PoolLemmas
pub mod SerialLemmas
