pub mod Again
mod Answered
pub mod Fronts
pub mod Headers
pub mod OneWay
pub mod Parts
pub mod Steps
pub mod Taken
pub mod Turns
pub mod Words
pub mod Written
pub mod Looks
pub mod Records
pub mod Spelling
