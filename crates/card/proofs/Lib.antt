pub mod Closing
pub mod Values
pub mod Records
pub mod Inside
pub mod Integers
