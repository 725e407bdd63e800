pub mod Turn
pub mod Blocks
