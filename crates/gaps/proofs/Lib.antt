pub mod Gaps
pub mod Nevers
