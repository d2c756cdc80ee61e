mod Passing
pub mod Counts
pub mod Named
pub mod Numerals
pub mod Own
mod OwnTraffic
