pub mod Gates
pub mod Schedules
pub mod StandsFor
pub mod Examples
