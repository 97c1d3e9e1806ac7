pub mod Freed
pub mod Sizing
pub mod Examples
