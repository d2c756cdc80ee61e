pub mod Asked
pub mod Described
pub mod Parsed
pub mod Parts
pub mod Usages
