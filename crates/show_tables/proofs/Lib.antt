mod Bounded
mod Kept
mod Ports
mod Rising
mod Told
