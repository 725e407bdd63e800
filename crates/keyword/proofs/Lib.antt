pub mod Position
pub mod Numerals
pub mod Parts
pub mod Slots
