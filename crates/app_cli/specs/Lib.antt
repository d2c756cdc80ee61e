pub mod Numbers
pub mod CommandLine
pub mod Helping
pub mod Examples
pub mod Sketching
pub mod Tabling
pub mod Usages
