pub mod Units
pub mod Stored
pub mod Numbers
pub mod Candidates
pub mod Lowest
