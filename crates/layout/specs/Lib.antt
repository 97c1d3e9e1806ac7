pub mod PlaceSets
pub mod Prepared
pub mod Steps
