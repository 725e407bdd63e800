pub mod Quotes
pub mod Alike
pub mod Named
pub mod First
pub mod EitherCase
pub mod Ok
pub mod Sizes
pub mod Literals
