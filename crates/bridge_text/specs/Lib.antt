pub mod Growth
pub mod PathPrefix
pub mod Escaped
