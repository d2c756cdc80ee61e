pub mod Verdicts
pub mod Counts
pub mod Plans
pub mod StandsFor
pub mod Routes
pub mod Steps
pub mod OwnEvents
pub mod Examples
