pub mod Rings
pub mod Queues
pub mod Lists
pub mod Sends
pub mod Running
pub mod Ends
