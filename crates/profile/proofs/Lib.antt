pub mod Puts
pub mod Widths
pub mod Fits
pub mod Calls
pub mod Lines
pub mod Cells
