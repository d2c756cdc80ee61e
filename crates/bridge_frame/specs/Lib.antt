pub mod Frames
pub mod Link
pub mod Addresses
