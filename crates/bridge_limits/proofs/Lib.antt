pub mod Cases
pub mod Lists
pub mod Members
pub mod Octets
pub mod Options
pub mod Orders
