pub mod GapRows
pub mod WindowArray
pub mod Format
pub mod Message
pub mod Cleared
pub mod Zeros
pub mod Theorems
