pub mod Looking
pub mod Solving
pub mod Following
