pub mod JobLists
pub mod Judging
pub mod Format
pub mod Theorems
pub mod Refusals
