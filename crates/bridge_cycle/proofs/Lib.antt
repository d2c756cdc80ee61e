pub mod Searching
pub mod Turns
pub mod Totals
pub mod Repeats
pub mod Runs
pub mod Fitting
pub mod Lists
pub mod Changes
