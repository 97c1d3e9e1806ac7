pub mod Weights
pub mod Stepping
pub mod Sums
pub mod LeftAt
