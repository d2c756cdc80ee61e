pub mod StreamIndex
pub mod Identification
pub mod Examples
