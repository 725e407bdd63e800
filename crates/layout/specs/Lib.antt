pub mod Layout
pub mod Names
pub mod EitherCase
