pub mod Longer
pub mod Puts
