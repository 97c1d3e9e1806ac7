pub mod Plans
pub mod Endings
pub mod Answers
pub mod Refusals
pub mod Best
pub mod Examples
