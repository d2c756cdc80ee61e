pub mod ScheduleLaws
pub mod Asks
