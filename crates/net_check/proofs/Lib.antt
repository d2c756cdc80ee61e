pub mod Named
pub mod Refused
pub mod Told
pub mod Plans
pub mod DeliveredStreams
