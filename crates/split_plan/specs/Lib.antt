pub mod Record
pub mod Writing
pub mod Examples
