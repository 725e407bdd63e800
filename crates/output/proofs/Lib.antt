mod Entries
mod Lines
mod Filling
mod Before
mod Columns
pub mod Parted
pub mod Whole
pub mod Shown
pub mod Example
