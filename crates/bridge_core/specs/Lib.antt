pub mod CaptureWriters
pub mod Running
pub mod WholeRuns
pub mod Bridges
