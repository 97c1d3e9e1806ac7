pub mod StateCount
pub mod Examples
