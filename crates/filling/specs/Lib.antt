pub mod Filling
pub mod Lending
