pub mod GateSchedule
pub mod Schedule
pub mod Solo
pub mod StandsFor
pub mod Rings
pub mod Heads
pub mod MappedCopies
pub mod Spans
