pub mod Covers
pub mod Making
