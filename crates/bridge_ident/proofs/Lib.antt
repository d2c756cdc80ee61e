mod Keys
mod Walks
pub mod Entries
