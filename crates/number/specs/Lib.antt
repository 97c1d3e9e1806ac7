pub mod Readers
pub mod Numbers
pub mod Inputs
pub mod Outputs
pub mod Examples
