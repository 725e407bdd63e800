pub mod Plan
pub mod Owned
pub mod Ran
