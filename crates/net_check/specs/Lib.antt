pub mod Naming
pub mod Networks
pub mod Telling
pub mod Warnings
