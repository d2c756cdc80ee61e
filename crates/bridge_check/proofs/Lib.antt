pub mod Both
pub mod Runs
pub mod Told
pub mod Led
pub mod Others
mod Passed
pub mod Least
pub mod Among
pub mod Isolated
pub mod Grouped
pub mod Sound
pub mod Heads
pub mod Apart
