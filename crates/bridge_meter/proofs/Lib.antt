pub mod Moves
pub mod Covered
pub mod Stands
