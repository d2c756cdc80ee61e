pub mod Failed
pub mod Kept
pub mod Taken
pub mod Folders
