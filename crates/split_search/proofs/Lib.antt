pub mod Before
pub mod Rows
pub mod Rest
pub mod Costs
pub mod Searching
pub mod Shares
