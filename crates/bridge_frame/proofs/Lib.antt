pub mod Heads
pub mod Marking
pub mod Times
pub mod Addresses
