pub mod Lines
pub mod Listing
pub mod Parts
pub mod Says
