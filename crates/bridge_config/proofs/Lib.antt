pub mod Own
pub mod Commanded
pub mod Counts
pub mod Listed
mod Examples
pub mod PlanPorts
pub mod InOrder
pub mod Sorted
mod InTurn
pub mod Tables
pub mod Taken
