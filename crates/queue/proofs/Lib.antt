pub mod Windows
pub mod Same
pub mod Examples
