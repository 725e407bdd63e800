pub mod Arguments
pub mod Message
pub mod Printed
pub mod Ways
