pub mod Records
pub mod Fresh
