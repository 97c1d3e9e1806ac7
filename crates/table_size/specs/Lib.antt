pub mod Sizes
pub mod Largest
pub mod Sizing
pub mod Examples
