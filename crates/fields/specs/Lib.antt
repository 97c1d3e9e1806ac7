pub mod Lists
pub mod Fields
pub mod Messages
pub mod Writers
pub mod Orders
