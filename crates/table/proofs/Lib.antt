pub mod Columns
pub mod NoItems
pub mod Places
pub mod Scanned
pub mod ToNext
