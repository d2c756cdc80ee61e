pub mod Paths
pub mod FailedFiles
pub mod Taken
pub mod Said
pub mod Folders
pub mod Reading
