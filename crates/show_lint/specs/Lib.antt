pub mod Filters
pub mod Streams
