pub mod Chosen
pub mod NextPlace
pub mod Scan
pub mod TableRow
