pub mod Arrays
pub mod Tests
pub mod Records
