pub mod Loops
pub mod Records
