mod Part
mod Steps
pub mod Turned
pub mod Calls
