pub mod Ports
pub mod Database
pub mod LookupTables
pub mod Forward
pub mod PortRule
pub mod Examples
