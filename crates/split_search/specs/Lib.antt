pub mod Searching
pub mod Shares
