pub mod Values
pub mod Entered
pub mod States
pub mod Tables
pub mod Counting
pub mod UpTo
