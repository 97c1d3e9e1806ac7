pub mod Finishing
pub mod Plans
