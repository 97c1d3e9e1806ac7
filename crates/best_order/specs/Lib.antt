pub mod Endings
pub mod BestOrder
pub mod Changes
pub mod Planning
