pub mod Sums
pub mod Digits
pub mod States
pub mod AllFeasible
pub mod Most
pub mod MoreKinds
pub mod Examples
