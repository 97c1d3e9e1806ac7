pub mod Planning
pub mod Cases
