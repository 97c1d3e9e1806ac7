pub mod Groups
pub mod Reasons
