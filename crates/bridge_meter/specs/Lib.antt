pub mod Bounds
pub mod Colours
pub mod Covers
pub mod StandsFor
pub mod Steps
pub mod Examples
