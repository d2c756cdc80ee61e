pub mod Passes
pub mod Traced
pub mod Counted
pub mod Gathered
pub mod Ways
pub mod Tabled
pub mod Same
