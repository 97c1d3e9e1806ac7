pub mod Cutters
pub mod Lengths
pub mod Telling
pub mod Examples
