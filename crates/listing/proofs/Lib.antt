pub mod Lengths
pub mod Short
pub mod Turns
pub mod Written
