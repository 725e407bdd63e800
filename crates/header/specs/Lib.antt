pub mod Records
pub mod Checks
pub mod Noting
pub mod Unused
