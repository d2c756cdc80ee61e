pub mod Counts
pub mod Sets
mod Lists
pub mod Standing
pub mod Faults
