pub mod Examples
pub mod Keys
pub mod Reading
pub mod Readers
pub mod AllowedKeys
pub mod Texts
pub mod FaultCodes
