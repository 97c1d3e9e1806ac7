pub mod PlaceRule
pub mod OfQueue
pub mod Bounds
pub mod Cases
pub mod Forbidden
pub mod Unforbidden
