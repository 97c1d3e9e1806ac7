pub mod Record
pub mod Reading
pub mod Writing
pub mod Writer
pub mod Refusals
pub mod Examples
