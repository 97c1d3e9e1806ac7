pub mod Endings
pub mod BestSplit
pub mod Splitting
pub mod Examples
