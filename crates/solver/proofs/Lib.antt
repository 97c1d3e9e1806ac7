pub mod Walking
pub mod Looking
pub mod Start
pub mod Following
