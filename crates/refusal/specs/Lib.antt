pub mod Reasons
pub mod Words
pub mod Answers
