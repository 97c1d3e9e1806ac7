pub mod Record
pub mod Reading
pub mod Fronts
pub mod Writing
pub mod Refusals
pub mod Examples
