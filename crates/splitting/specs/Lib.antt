pub mod Splits
pub mod Shares
pub mod Taken
pub mod Scan
pub mod Covers
pub mod Cases
