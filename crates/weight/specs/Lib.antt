pub mod Weight
pub mod Reading
pub mod Code
