pub mod Numbers
pub mod NextStates
