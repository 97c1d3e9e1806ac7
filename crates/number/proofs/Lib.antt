pub mod Bits
pub mod Steps
pub mod Reading
pub mod Encoding
pub mod Writing
pub mod Examples
