pub mod EitherCase
pub mod Opened
