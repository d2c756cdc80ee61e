mod Blocks
mod Digits
mod Fronts
mod Lookups
mod Loops
pub mod Puts
pub mod Same
