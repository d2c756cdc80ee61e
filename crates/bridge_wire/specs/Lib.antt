pub mod Wire
pub mod Departures
pub mod Rings
pub mod OpenQueues
